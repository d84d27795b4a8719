use Rattle.std.proofs.Common.{◌≡◌}
use Rattle.lc_num_tests.proofs.heaps.three.Given as goal

abbrev pub invariant-loop-e : goal.invariant-loop-e
invariant-loop-e g l = l.heap.room ≡ 3
