use Rattle.std.proofs.Common.{rules, ◌≡◌, ◌-◌, ◌∷◌, [], ◌++◌, List, length, IsPermutation, ap, subst, ◌∙◌, arith}
use Rattle.lc_heap.specs.declared.entry.Entry.{Entry}
use Rattle.lc_heap.specs.Heaps.{HeapParts}
use Rattle.lc_heap.proofs.Digits.{bits_rise}
use Rattle.lc_heap.proofs.Taking.{added, heap_more, put_back}
use Rattle.lc_heap.proofs.heap.Heap.put.Goals as goal

pub rise-requires-clause-heap : goal.rise-requires-clause-heap
rise-requires-clause-heap g c = heap_more c.self.inside.entries.items c.args.e _ (c.deref_mut.ensures.value ∙ (search rules)) c.self.invariant.0

pub returns-clause-entries : goal.returns-clause-entries
returns-clause-entries g c =
    let es = c.self.inside.entries.items in
    let e = c.args.e in
    let xs = c.rise.new.entries in
    let was = ap (λ (h : HeapParts). h.entries) c.self.view_is in
    let pushed : c.push.new.self.items ≡ es ++ e ∷ [] = search rules in
    let moved = rw c.of-packed.ensures at c.rise.ensures.moved in
    rw (put_back c.push.new.self.len xs c.push.new.self.items (omega arith))
    (subst (λ (l : List Entry). IsPermutation (e ∷ l) xs) was (added es e c.deref_mut.result.now xs (c.deref_mut.ensures.value ∙ pushed) moved))

pub returns-clause-steps : goal.returns-clause-steps
returns-clause-steps g c =
    let ys = c.deref_mut.result.now in
    let xs = c.rise.new.entries in
    rw (put_back c.push.new.self.len xs c.push.new.self.items (omega arith))
    (omega (arith, bits_rise (length ys - 1) (length xs) (omega arith), c.rise.ensures.steps))
