use Rattle.std.proofs.Common.{length, ap, arith}
use Rattle.lc_heap.proofs.Taking.{heap_none}
use Rattle.lc_heap.proofs.heap.Heap.clear.Goals as goal

pub invariant_of-self : goal.invariant_of-self
invariant_of-self c = let empty = ap length c.clear.ensures.items in (heap_none _ c.clear.ensures.items, omega arith, omega (arith, c.self.invariant.2))
