use Rattle.std.proofs.Common.{◌≡◌, ◌∙◌, [], List, Contains, MatchOption, Some, ap, slice_get, subst, sym}
use Rattle.lc_heap.specs.declared.entry.Entry.{Entry}
use Rattle.lc_heap.specs.Order.{IsFirstOf}
use Rattle.lc_heap.specs.Heaps.{HeapParts}
use Rattle.lc_heap.proofs.Taking.{first_found}
use Rattle.lc_heap.proofs.heap.Heap.first.Goals as goal

pub returns : goal.returns
returns c =
    let first = c.in_ok-first.first in
    let is = sym c.in_ok-first.was ∙ c.copied.ensures ∙ c.first.ensures.value ∙ ap (λ (l : List Entry). slice_get l 0) c.deref.ensures.value in
    rw c.entry.ensures
    (subst (λ (l : List Entry). MatchOption (Some first) (l ≡ []) (λ e. Contains l e × IsFirstOf l e)) (ap (λ (h : HeapParts). h.entries) c.self.view_is)
    (first_found c.self.inside.entries.items (Some first) is c.self.invariant.0))
