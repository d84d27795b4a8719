use Rattle.std.proofs.Common.{◌≡◌}
use Rattle.lc_num_tests.proofs.heaps.many.Given as goal

abbrev pub invariant-put : goal.invariant-put
invariant-put g l = l.heap.room ≡ 500
