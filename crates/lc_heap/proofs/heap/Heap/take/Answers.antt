use Rattle.std.proofs.Common.{◌≡◌, ◌<◌, ◌∷◌, [], List, length, set, length-append, IsPermutation, ap, sym, subst, ◌∙◌, arith}
use Rattle.std.proofs.lemmas.Bool.Decides.{nat_tests}
use Rattle.lc_heap.specs.declared.entry.Entry.{Entry}
use Rattle.lc_heap.specs.Order.{IsFirstOf}
use Rattle.lc_heap.specs.Heaps.{HeapParts, IsHeap}
use Rattle.lc_heap.proofs.Digits.{bits_rise}
use Rattle.lc_heap.proofs.Taking.{first_is, first_longer, heap_less, one_left, put_back, taken}
use Rattle.lc_heap.proofs.heap.Heap.take.Goals as goal

pub invariant_of-self-then-is_empty : goal.invariant_of-self-then-is_empty
invariant_of-self-then-is_empty g c =
    let items = c.in_ok-last.ensures.items in
    let long = ap length items ∙ length-append c.pop.new.self.items (c.in_ok-last.last ∷ []) in
    let was = c.self.invariant in
    (heap_less c.pop.new.self.items (c.in_ok-last.last ∷ []) c.self.inside.entries.items items was.0, omega (arith, was.1), omega (arith, was.2))

pub returns-then-is_empty-clause-entries : goal.returns-then-is_empty-clause-entries
returns-then-is_empty-clause-entries g c =
    let was = ap (λ (h : HeapParts). h.entries) c.self.view_is in
    let none : length c.pop.new.self.items ≡ 0 = grind (arith, nat_tests) in
    rw c.entry.ensures
    (subst (λ (l : List Entry). IsPermutation l (c.in_ok-last.last ∷ c.pop.new.self.items) × IsFirstOf l c.in_ok-last.last) was
    (one_left c.self.inside.entries.items c.pop.new.self.items c.in_ok-last.last c.in_ok-last.ensures.items none c.self.invariant.0))

pub sink-requires-clause-heap : goal.sink-requires-clause-heap
sink-requires-clause-heap g c =
    subst IsHeap (sym c.deref_mut.ensures.value) (heap_less c.pop.new.self.items (c.in_ok-last.last ∷ []) c.self.inside.entries.items c.in_ok-last.ensures.items c.self.invariant.0)

pub returns-clause-entries : goal.returns-clause-entries
returns-clause-entries g c =
    let es = c.self.inside.entries.items in
    let rest = c.pop.new.self.items in
    let last = c.in_ok-last.last in
    let z = c.index-first.result.now in
    let xs = c.sink.new.entries in
    let is = c.in_ok-last.ensures.items in
    let was = ap (λ (h : HeapParts). h.entries) c.self.view_is in
    let some : 0 < length rest = grind (arith, nat_tests) in
    let moved = subst (λ (l : List Entry). IsPermutation (set l 0 last) xs) c.deref_mut.ensures.value c.sink.ensures.moved in
    rw (c.entry-2.ensures, put_back c.pop.new.self.len xs rest (omega arith))
    (subst (λ (l : List Entry). IsPermutation l (z ∷ xs) × IsFirstOf l z) was
    (taken es rest last z xs is some c.index-first.ensures moved, first_is es z (first_longer es rest last z is some c.index-first.ensures) c.self.invariant.0))

pub returns-clause-steps : goal.returns-clause-steps
returns-clause-steps g c =
    let es = c.self.inside.entries.items in
    let rest = c.pop.new.self.items in
    let was = ap length (ap (λ (h : HeapParts). h.entries) c.self.view_is) in
    let long = ap length c.in_ok-last.ensures.items ∙ length-append rest (c.in_ok-last.last ∷ []) in
    let fewer = bits_rise (length c.deref_mut.result.now) (length c.args.self.now.entries) (omega arith) in
    omega (arith, fewer, c.sink.ensures.steps)
