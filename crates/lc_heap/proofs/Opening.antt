-- Lists with an open place, at which an entry is thought to stand.
use Rattle.std.proofs.Common.{◌≡◌, ℕ, ◌+◌, ◌*◌, ◌<◌, ◌≤◌, ◌≢◌, inl, inr, Bool, true, false, List, length, get_or, set, IsPermutation, ap, sym, subst, ◌∙◌, refl, arith, get_or-set_same, get_or-set_other, length-set}
use mir.Val.{bool_byte}
use Rattle.std.specs.List.{swap}
use Rattle.std.proofs.lemmas.Bool.{cases_eq}
use Rattle.std.proofs.lemmas.List.{get_or_default, set-set}
use Rattle.std.proofs.lemmas.List.Edits.{Swapped, swap_is, swapped_from_swap}
use Rattle.std.proofs.lemmas.List.Sorted.{IsPermutation-swap, IsPermutation-trans}
use Rattle.lc_heap.specs.declared.entry.Entry.{Entry}
use Rattle.lc_heap.specs.Order.{comes_before}
use Rattle.lc_heap.specs.Heaps.{IsFirstChild, IsHeap, IsHeapIn}
use Rattle.lc_heap.proofs.OrderLaws.{itself, not_before, one_way}
use Rattle.lc_heap.proofs.Sifting.{Heaped, Rising, Sinking, rises, sinks, rested, settled, stands}

-- what `Rising` and `Sinking` say of the places of a list
abbrev pub Rises : List Entry → ℕ → Type 0
Rises es j = (d : Entry) → Rising (λ k. get_or es k d) j (length es)

abbrev pub Sinks : List Entry → ℕ → Type 0
Sinks es j = (d : Entry) → Sinking (λ k. get_or es k d) j (length es)

heap_is : (es : List Entry) → ((d : Entry) → Heaped (λ k. get_or es k d) (length es)) → IsHeap es
unfolding IsHeapIn
heap_is es h = λ p k d a b in'. (h d).below p k a b in'

pub heaped : (es : List Entry) (d : Entry) → IsHeap es → Heaped (λ k. get_or es k d) (length es)
unfolding IsHeapIn
heaped es d h = record { below = λ p k a b in'. h p k d a b in' }

-- the entry at c, which is z, goes to the open place j, and leaves c open
module _ (es : List Entry) (e z : Entry) (j c : ℕ) (is : z ≡ get_or es c z) (differ : j ≢ c) (inside : j < length es) (within : c < length es) where
  seen_there : (d : Entry) → get_or (set es j e) c d ≡ z
  seen_there d = let v : c ≢ j = λ p. differ (sym p) in get_or-set_other es j c e d v ∙ get_or_default es c d z within ∙ sym is

  is_swap : set (set es j z) c e ≡ swap (set es j e) j c
  is_swap =
      let long = length-set es j e in
      let there : get_or (set es j e) c z ≡ z = seen_there z in
      let here : get_or (set es j e) j z ≡ e = get_or-set_same es j e z inside in
      let as_set : set (set es j e) j z ≡ set es j z = set-set es j e z in
      sym (ap (λ (l : List Entry). set l c e) as_set)
      ∙ sym (ap (λ (x : Entry). set (set (set es j e) j x) c e) there)
      ∙ sym (ap (λ (x : Entry). set (set (set es j e) j (get_or (set es j e) c z)) c x) here)
      ∙ swap_is (set es j e) j c z (omega arith) (omega arith)

  pub moves : (xs : List Entry) → IsPermutation xs (set es j e) → IsPermutation xs (set (set es j z) c e)
  moves xs h =
      let long = length-set es j e in
      IsPermutation-trans xs (set es j e) (set (set es j z) c e) h (IsPermutation-swap (set es j e) (set (set es j z) c e) j c (omega arith) (omega arith) is_swap)

  swapped : (d : Entry) → Swapped (λ k. get_or (set es j e) k d) (λ k. get_or (set (set es j z) c e) k d) j c
  swapped d =
      let long = length-set es j e in
      swapped_from_swap (set es j e) (set (set es j z) c e) j c d (omega arith) (omega arith) is_swap

  long : length (set es j e) ≡ length (set (set es j z) c e)
  long = length-set es j e ∙ sym (length-set (set es j z) c e ∙ length-set es j z)

  pub rises_more : 2 * c + 1 ≤ j → j ≤ 2 * c + 2 → comes_before e z ≡ true → Rises (set es j e) j → Rises (set (set es j z) c e) c
  rises_more lo hi up h = λ d.
      let was : Rising (λ k. get_or (set es j e) k d) j (length (set (set es j z) c e)) = subst (Rising (λ k. get_or (set es j e) k d) j) long (h d) in
      let full = sym long ∙ length-set es j e in
      rises (λ k. get_or (set es j e) k d) (λ k. get_or (set (set es j z) c e) k d) (length (set (set es j z) c e)) j c lo hi (omega arith) (swapped d)
      (stands true _ _ _ _ (get_or-set_same es j e d inside) (seen_there d) up) was

  pub sinks_more : 2 * j + 1 ≤ c → c ≤ 2 * j + 2 → comes_before z e ≡ true → IsFirstChild es j c → Sinks (set es j e) j → Sinks (set (set es j z) c e) c
  unfolding IsFirstChild
  sinks_more lo hi down first h = λ d.
      let was : Sinking (λ k. get_or (set es j e) k d) j (length (set (set es j z) c e)) = subst (Sinking (λ k. get_or (set es j e) k d) j) long (h d) in
      let full : length (set (set es j z) c e) ≡ length es = sym long ∙ length-set es j e in
      sinks (λ k. get_or (set es j e) k d) (λ k. get_or (set (set es j z) c e) k d) (length (set (set es j z) c e)) j c lo hi (omega arith) (swapped d)
      (stands true _ _ _ _ (seen_there d) (get_or-set_same es j e d inside) down)
      (λ k a b in'. stands false _ _ _ _ (get_or-set_other es j k e d (omega arith)) (get_or-set_other es j c e d (omega arith)) (first k d a b (omega arith))) was

  pub rises_rest : 2 * c + 1 ≤ j → j ≤ 2 * c + 2 → comes_before e z ≡ false → Rises (set es j e) j → IsHeap (set es j e)
  rises_rest lo hi stays h = heap_is (set es j e) (λ d.
      rested (λ k. get_or (set es j e) k d) (length (set es j e)) j
      (λ p a b. let same : p ≡ c = omega arith in stands false _ _ _ _ (get_or-set_same es j e d inside) (ap (λ i. get_or (set es j e) i d) same ∙ seen_there d) stays) (h d))

  pub sinks_rest : 2 * j + 1 ≤ c → c ≤ 2 * j + 2 → comes_before z e ≡ false → IsFirstChild es j c → Sinks (set es j e) j → IsHeap (set es j e)
  unfolding IsFirstChild
  sinks_rest lo hi stays first h = heap_is (set es j e) (λ d.
      let full = length-set es j e in
      settled (λ k. get_or (set es j e) k d) (length (set es j e)) j
      (λ k a b in'. stands false _ _ _ _ (get_or-set_other es j k e d (omega arith)) (get_or-set_same es j e d inside)
      (not_before e (get_or es c d) (get_or es k d) (first k d a b (omega arith)) (stands false _ _ _ _ (get_or_default es c d z within ∙ sym is) refl stays))) (h d))

module _ (es : List Entry) (e : Entry) where
  pub rises_first : (n : ℕ) → n + 1 ≡ length es → IsHeapIn es n → Rises (set es n e) n
  unfolding IsHeapIn
  rises_first n last h = λ d.
      let full = length-set es n e in
      record {
        others = λ p k a b in' v. stands false _ _ _ _ (get_or-set_other es n k e d v) (get_or-set_other es n p e d (omega arith)) (h p k d a b (omega arith));
        across = λ p k x y a b in'. absurd (omega arith);
      }

  pub sinks_first : IsHeap es → Sinks (set es 0 e) 0
  unfolding IsHeapIn
  sinks_first h = λ d.
      let full = length-set es 0 e in
      record {
        others = λ p k a b in' v. stands false _ _ _ _ (get_or-set_other es 0 k e d (omega arith)) (get_or-set_other es 0 p e d v) (h p k d a b (omega arith));
        across = λ p k x y a b in'. absurd (omega arith);
      }

  pub rises_top : (j : ℕ) → j ≤ 0 → Rises (set es j e) j → IsHeap (set es j e)
  rises_top j top h = heap_is (set es j e) (λ d. rested (λ k. get_or (set es j e) k d) (length (set es j e)) j (λ p a b. absurd (omega arith)) (h d))

  pub sinks_leaf : (j : ℕ) → length es ≤ 2 * j + 1 → Sinks (set es j e) j → IsHeap (set es j e)
  sinks_leaf j leaf h = heap_is (set es j e) (λ d.
      let full = length-set es j e in
      settled (λ k. get_or (set es j e) k d) (length (set es j e)) j (λ k a b in'. absurd (omega arith)) (h d))

-- the first of the children of a place
module _ (es : List Entry) (j : ℕ) where
  pub only_child : 2 * j + 1 + 1 ≡ length es → IsFirstChild es j (2 * j + 1)
  unfolding IsFirstChild
  only_child last = λ k d a b in'. let e : k ≡ 2 * j + 1 = omega arith in stands false _ _ _ _ (ap (λ i. get_or es i d) e) refl (itself (get_or es (2 * j + 1) d))

  -- x is the right one and y the left one
  module _ (x y : Entry) (long : 2 * j + 1 + 1 < length es) (right : x ≡ get_or es (2 * j + 1 + 1) x) (left : y ≡ get_or es (2 * j + 1) y) where
    left_child : comes_before x y ≡ false → IsFirstChild es j (2 * j + 1)
    unfolding IsFirstChild
    left_child before = λ k d a b in'. elim (cases_eq k (2 * j + 1)) as (λ _. comes_before (get_or es k d) (get_or es (2 * j + 1) d) ≡ false) [
      | inl e ↦ stands false _ _ _ _ (ap (λ i. get_or es i d) e) refl (itself (get_or es (2 * j + 1) d))
      | inr u ↦
          let e : k ≡ 2 * j + 1 + 1 = omega arith in
          stands false _ _ _ _ (ap (λ i. get_or es i d) e ∙ get_or_default es (2 * j + 1 + 1) d x long ∙ sym right) (get_or_default es (2 * j + 1) d y (omega arith) ∙ sym left) before
    ]

    right_child : comes_before x y ≡ true → IsFirstChild es j (2 * j + 1 + 1)
    unfolding IsFirstChild
    right_child before = λ k d a b in'. elim (cases_eq k (2 * j + 1)) as (λ _. comes_before (get_or es k d) (get_or es (2 * j + 1 + 1) d) ≡ false) [
      | inl e ↦
          stands false _ _ _ _ (ap (λ i. get_or es i d) e ∙ get_or_default es (2 * j + 1) d y (omega arith) ∙ sym left) (get_or_default es (2 * j + 1 + 1) d x long ∙ sym right)
          (one_way x y before)
      | inr u ↦ let e : k ≡ 2 * j + 1 + 1 = omega arith in stands false _ _ _ _ (ap (λ i. get_or es i d) e) refl (itself (get_or es (2 * j + 1 + 1) d))
    ]

    -- the place of the right one is one more
    pub one_of_two : (t : Bool) (n : ℕ) → comes_before x y ≡ t → n ≡ bool_byte t → IsFirstChild es j (2 * j + 1 + n)
    one_of_two true n before is = let at : 2 * j + 1 + 1 ≡ 2 * j + 1 + n = omega (arith, is) in subst (IsFirstChild es j) at (right_child before)
    one_of_two false n before is = let at : 2 * j + 1 ≡ 2 * j + 1 + n = omega (arith, is) in subst (IsFirstChild es j) at (left_child before)
