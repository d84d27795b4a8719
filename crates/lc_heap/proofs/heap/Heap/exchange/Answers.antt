use Rattle.std.proofs.Common.{◌∷◌, List, length, set, IsPermutation, ap, subst, arith}
use Rattle.lc_heap.specs.declared.entry.Entry.{Entry}
use Rattle.lc_heap.specs.Order.{IsFirstOf}
use Rattle.lc_heap.specs.Heaps.{HeapParts}
use Rattle.lc_heap.proofs.Taking.{exchanged, first_is, put_back}
use Rattle.lc_heap.proofs.heap.Heap.exchange.Goals as goal

pub returns-clause-entries : goal.returns-clause-entries
returns-clause-entries g c =
    let es = c.self.inside.entries.items in
    let e = c.args.e in
    let z = c.index-first.result.now in
    let xs = c.sink.new.entries in
    let was = ap (λ (h : HeapParts). h.entries) c.self.view_is in
    let moved = rw c.of.ensures at (subst (λ (l : List Entry). IsPermutation (set l 0 c.of.result) xs) c.deref_mut.ensures.value c.sink.ensures.moved) in
    let some = c.requires in
    rw (c.entry.ensures, put_back c.self.inside.entries.len xs es (omega arith))
    (subst (λ (l : List Entry). IsPermutation (e ∷ l) (z ∷ xs)) was (exchanged es e z xs (omega (arith, ap length was)) c.index-first.ensures moved))

pub returns-clause-first : goal.returns-clause-first
returns-clause-first g c =
    let was = ap (λ (h : HeapParts). h.entries) c.self.view_is in
    rw c.entry.ensures
    (subst (λ (l : List Entry). IsFirstOf l c.index-first.result.now) was (first_is c.self.inside.entries.items c.index-first.result.now c.index-first.ensures c.self.invariant.0))
