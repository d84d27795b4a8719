-- The lights with their numbers, and their order.
use Rattle.std.proofs.Common.{◌≡◌, ℕ, suc, ◌+◌, ◌<◌, List, [], ◌∷◌, ◌++◌, length, take, map, slice_get, get_or, Some, true, false, refl, ap, sym, ◌∙◌, arith, All, ℤ, Ordering, Less, Equal, Greater}
use Rattle.std.specs.List.{enumerate_from, range_with_len}
use Rattle.std.specs.Ordering.{int_cmp, nat_cmp, ordering_then, ordering_reverse, is_lt}
use Rattle.std.specs.Cmp.{IsStrictWeakOrder}
use Rattle.std.specs.Prelude.{IsPermutation}
use Rattle.std.specs.List.Sorted.{IsSortedBy}
use Rattle.std.proofs.lemmas.Cmp.{int_cmp_total, nat_cmp_total, on_total, then_total}
use Rattle.std.proofs.lemmas.Map.Lookups.{exact_unsigned}
use Rattle.std.proofs.lemmas.List.{take_more, get_or-map}
use Rattle.std.proofs.lemmas.List.FromFn.{length-enumerate_from, get_or-enumerate_from}
use Rattle.std.proofs.lemmas.List.Elements.{All-nil, All-cons, All-map, All-from_get_or, All-head, All-tail}
use Rattle.std.proofs.lemmas.List.Sorted.{ranks_by}
use Rattle.std.proofs.lemmas.Option.{same_Some, slice_get-get_or}
use Rattle.lc_num.specs.declared.vectors.Vec3.{Vec3}
use Rattle.lc_terms.specs.Kind.{Meaning}
use Rattle.lc_tree.specs.declared.axis.Axis.{Axis}
use Rattle.lc_tree.specs.declared.numbered.Numbered.{Numbered}
use Rattle.lc_tree.specs.Build.{comes_before, in_order, numbered}
use Rattle.lc_tree.specs.Extents.{coordinate, longest_axis}
use Rattle.lc_tree.specs.Grown.{IsValid, StandsIn}
use Rattle.lc_tree.proofs.Sorting.{sorted_is}

-- where neither of two is less by two tests, they tie in the second
second_ties : (o p q r : Ordering) → q ≡ ordering_reverse o → r ≡ ordering_reverse p → is_lt (ordering_then o p) ≡ false → is_lt (ordering_then q r) ≡ false → p ≡ Equal
second_ties Less p q r e f h k = cc
second_ties Greater p q r e f h k = let l : is_lt (ordering_then q r) ≡ true = ap (λ o. is_lt (ordering_then o r)) e in cc
second_ties Equal Less q r e f h k = cc
second_ties Equal Equal q r e f h k = refl
second_ties Equal Greater q r e f h k =
    let l : is_lt (ordering_then q r) ≡ true = ap (λ o. is_lt (ordering_then o r)) e ∙ ap is_lt f in cc

module _ {L : Type 0} where
  same_numbered : (a b : Numbered L) → a.number ≡ b.number → a.place ≡ b.place → a.light ≡ b.light → a ≡ b
  same_numbered a b e f h =
      ap (λ n. let k : Numbered L = record { number = n; place = a.place; light = a.light } in k) e
      ∙ ap (λ p. let k : Numbered L = record { number = b.number; place = p; light = a.light } in k) f
      ∙ ap (λ l. let k : Numbered L = record { number = b.number; place = b.place; light = l } in k) h

  order_is_strict : (axis : Axis) → IsStrictWeakOrder (comes_before {L = L} axis)
  order_is_strict axis =
      ranks_by (then_total (on_total (λ (k : ℤ × ℕ). k.0) int_cmp_total) (on_total (λ (k : ℤ × ℕ). k.1) nat_cmp_total)) (λ (e : Numbered L). (coordinate axis e.place, e.number))

  both : (P Q : Numbered L → Type 0) (es : List (Numbered L)) → All P es → All Q es → All (λ e. P e × Q e) es
  both P Q [] p q = All-nil (λ e. P e × Q e)
  both P Q (e ∷ es) p q =
      All-cons (λ e. P e × Q e) e es (All-head P e es p, All-head Q e es q) (both P Q es (All-tail P e es p) (All-tail Q e es q))

  stands_at : (lights : List L) (d : L) (i : ℕ) → i < length lights → (let p : ℕ × L = get_or (enumerate_from 0 lights) i (0, d) in slice_get lights p.0 ≡ Some p.1)
  stands_at lights d i below =
      let zero_add : 0 + i ≡ i = omega arith in
      let at : get_or (enumerate_from 0 lights) i (0, d) ≡ (i, get_or lights i d) = get_or-enumerate_from 0 lights i (0, d) below ∙ ap (λ n. (n, get_or lights i d)) zero_add in
      rw at (slice_get-get_or lights i d below)

module _ {L C : Type 0} where
  -- a numbered light that is valid and stands in the list
  abbrev pub Stands : Meaning L C → List L → Numbered L → Type 0
  Stands m lights e = IsValid m e × StandsIn lights e

  ties : (m : Meaning L C) (lights : List L) (axis : Axis) (a b : Numbered L) → Stands m lights a → Stands m lights b → comes_before axis a b ≡ false → comes_before axis b a ≡ false → a ≡ b
  ties m lights axis a b ha hb h k =
      let numbers : a.number ≡ b.number =
      exact_unsigned a.number b.number (second_ties (int_cmp (coordinate axis a.place) (coordinate axis b.place)) (nat_cmp a.number b.number) (int_cmp (coordinate axis b.place) (coordinate axis a.place)) (nat_cmp b.number a.number) (int_cmp_total.antisymm (coordinate axis b.place) (coordinate axis a.place)) (nat_cmp_total.antisymm b.number a.number) h k) in
      let lights_same : a.light ≡ b.light = same_Some _ _ (sym ha.1 ∙ ap (slice_get lights) numbers ∙ hb.1) in
      same_numbered a b numbers (ha.0.place ∙ ap m.place lights_same ∙ sym hb.0.place) lights_same

  -- a sort along the longest axis gives the lights in order
  pub ordered : (m : Meaning L C) (lights : List L) (axis : Axis) (old new : List (Numbered L)) → axis ≡ longest_axis old → All (Stands m lights) old → IsPermutation old new → IsSortedBy (comes_before axis) new → new ≡ in_order (comes_before (longest_axis old)) old
  ordered m lights axis old new e h moved sorted =
      sorted_is (comes_before axis) (order_is_strict axis) (Stands m lights) (ties m lights axis) old new h moved sorted
      ∙ ap (λ a. in_order (comes_before a) old) e

  pub all_stand : (m : Meaning L C) (lights : List L) (es : List (Numbered L)) → All (IsValid m) es → All (StandsIn lights) es → All (Stands m lights) es
  all_stand m lights es p q = both (IsValid m) (StandsIn lights) es p q

  abbrev number_one : Meaning L C → ℕ × L → Numbered L
  number_one m p = record { number = p.0; place = m.place p.1; light = p.1 }

  length_from : (m : Meaning L C) (n : ℕ) (lights : List L) → length (map (number_one m) (enumerate_from n lights)) ≡ length lights
  length_from m n [] = refl
  length_from m n (l ∷ ls) = ap suc (length_from m (n + 1) ls)

  pub length_numbered : (m : Meaning L C) (lights : List L) → length (numbered m lights) ≡ length lights
  length_numbered m lights = length_from m 0 lights

  -- one light more
  numbered_more : (m : Meaning L C) (lights : List L) (i : ℕ) (l : L) → i < length lights → l ≡ get_or lights i l → take (i + 1) (numbered m lights) ≡ take i (numbered m lights) ++ (let k : Numbered L = record { number = i; place = m.place l; light = l } in k) ∷ []
  numbered_more m lights i l below is =
      let short : i < length (enumerate_from 0 lights) = omega (arith, length-enumerate_from 0 lights) in
      let long : i < length (numbered m lights) = omega (arith, short, length_numbered m lights) in
      let zero_add : 0 + i ≡ i = omega arith in
      let at : get_or (enumerate_from 0 lights) i (i, l) ≡ (i, l) = get_or-enumerate_from 0 lights i (i, l) below ∙ ap (λ n. (n, get_or lights i l)) zero_add ∙ ap (λ k. (i, k)) (sym is) in
      take_more (numbered m lights) i (number_one m (i, l)) long
      ∙ ap (λ e. take i (numbered m lights) ++ e ∷ []) (get_or-map (number_one m) (enumerate_from 0 lights) i (i, l) (number_one m (i, l)) short ∙ ap (number_one m) at)

  pub numbered_next : (m : Meaning L C) (lights : List L) (done : List (Numbered L)) (i : ℕ) (l : L) (place : Vec3) → i < length lights → l ≡ get_or lights i l → place ≡ m.place l → done ≡ take i (numbered m lights) → done ++ (let k : Numbered L = record { number = i; place = place; light = l } in k) ∷ [] ≡ take (i + 1) (numbered m lights)
  numbered_next m lights done i l place below is at e =
      ap (λ es. es ++ (let k : Numbered L = record { number = i; place = place; light = l } in k) ∷ []) e
      ∙ ap (λ p. take i (numbered m lights) ++ (let k : Numbered L = record { number = i; place = p; light = l } in k) ∷ []) at
      ∙ sym (numbered_more m lights i l below is)

  numbers_from : (m : Meaning L C) (n : ℕ) (lights : List L) → map (λ e. e.number) (map (number_one m) (enumerate_from n lights)) ≡ range_with_len n (length lights)
  numbers_from m n [] = refl
  numbers_from m n (l ∷ ls) = ap (λ ns. n ∷ ns) (numbers_from m (n + 1) ls)

  -- their numbers are those from 0 on
  pub numbers_numbered : (m : Meaning L C) (lights : List L) → map (λ e. e.number) (numbered m lights) ≡ range_with_len 0 (length lights)
  numbers_numbered m lights = numbers_from m 0 lights

  valid_from : (m : Meaning L C) (n : ℕ) (lights : List L) → All m.valid_light lights → All (IsValid m) (map (number_one m) (enumerate_from n lights))
  valid_from m n [] h = All-nil (IsValid m)
  valid_from m n (l ∷ ls) h =
      All-cons (IsValid m) (number_one m (n, l)) (map (number_one m) (enumerate_from (n + 1) ls)) (record { light = All-head m.valid_light l ls h; place = refl }) (valid_from m (n + 1) ls (All-tail m.valid_light l ls h))

  pub numbered_valid : (m : Meaning L C) (lights : List L) → All m.valid_light lights → All (IsValid m) (numbered m lights)
  numbered_valid m lights h = valid_from m 0 lights h

  pub numbered_stand : (m : Meaning L C) (lights : List L) → All (StandsIn lights) (numbered m lights)
  numbered_stand m [] = All-nil (StandsIn [])
  numbered_stand m (l ∷ ls) =
      All-map (StandsIn (l ∷ ls)) (number_one m) (enumerate_from 0 (l ∷ ls))
      (All-from_get_or (λ p. slice_get (l ∷ ls) p.0 ≡ Some p.1) (enumerate_from 0 (l ∷ ls)) (0, l) (λ i below. stands_at (l ∷ ls) l i (omega (arith, below, length-enumerate_from 0 (l ∷ ls)))))
