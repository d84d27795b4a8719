use Rattle.std.proofs.Common.{arith}
use Rattle.std.proofs.lemmas.Bool.Decides.{nat_tests}
use Rattle.lc_heap.specs.Order.{comes_before}
use Rattle.lc_heap.proofs.packed.comes_before.Goals as goal

pub returns-then-a-b : goal.returns-then-a-b
unfolding comes_before
returns-then-a-b c = rw (← c.a.view_is, ← c.b.view_is) (grind (arith, nat_tests))

pub returns-then-a-b-2 : goal.returns-then-a-b-2
unfolding comes_before
returns-then-a-b-2 c = rw (← c.a.view_is, ← c.b.view_is) (grind (arith, nat_tests))

pub returns-then-a-b-3 : goal.returns-then-a-b-3
unfolding comes_before
returns-then-a-b-3 c = rw (← c.a.view_is, ← c.b.view_is) (grind (arith, nat_tests))

pub returns : goal.returns
unfolding comes_before
returns c = rw (← c.a.view_is, ← c.b.view_is) (grind (arith, nat_tests))
