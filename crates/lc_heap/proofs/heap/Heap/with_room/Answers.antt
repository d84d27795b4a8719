use Rattle.std.proofs.Common.{length, ap, arith}
use Rattle.lc_heap.proofs.Taking.{heap_none}
use Rattle.lc_heap.proofs.heap.Heap.with_room.Goals as goal

pub invariant_of-result : goal.invariant_of-result
invariant_of-result c = let made = c.in_ok-entries.ensures in let empty = ap length made.items in (heap_none _ made.items, omega arith, made.capacity)
