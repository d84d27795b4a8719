use Rattle.std.proofs.Common.{◌≡◌, ◌+◌, length}
use Rattle.lc_scan.specs.Fields.{fields}
use Rattle.lc_scan.proofs.spoken.count.Given as goal

abbrev pub invariant-loop-fields : goal.invariant-loop-fields
invariant-loop-fields l = l.n + length l.fields ≡ length (fields l.line)

abbrev pub decreases-loop-fields : goal.decreases-loop-fields
decreases-loop-fields l = length l.fields
