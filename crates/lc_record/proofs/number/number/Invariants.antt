use Rattle.std.proofs.Common.{◌≡◌, ◌^◌, ◌<◌, ◌++◌, length, decimal}
use Rattle.lc_record.proofs.number.number.Given as goal

-- the number of the digits so far, and what follows them
abbrev pub invariant-loop-next : goal.invariant-loop-next
invariant-loop-next l = record { text : l.bytes ≡ decimal l.value ++ l.rest; small : l.value < 2 ^ 120 }

abbrev pub decreases-loop-next : goal.decreases-loop-next
decreases-loop-next l = length l.rest
