use Rattle.std.proofs.Common.{◌≡◌, take, min}
use Rattle.std.specs.Str.Parse.{digits_value}
use Rattle.lc_scan.proofs.digits.up_to_41.Given as goal

abbrev pub invariant-loop-d : goal.invariant-loop-d
invariant-loop-d l = l.value ≡ min (digits_value 10 (take l.d-index l.digits)) 41
