-- A list in order is the one that a sort makes.
use Rattle.std.proofs.Common.{◌≡◌, ℕ, suc, ◌+◌, ◌<◌, ◌≤◌, List, [], ◌∷◌, length, get_or, true, false, Bool, cond, if◌then◌else◌, refl, sym, ap, ap₂, ◌∙◌, arith, All}
use Rattle.std.specs.Cmp.{IsStrictWeakOrder}
use Rattle.std.specs.List.{sum_by}
use Rattle.std.specs.Prelude.{IsPermutation}
use Rattle.std.specs.List.Sorted.{IsSortedBy}
use Rattle.std.proofs.lemmas.List.Elements.{All-head, All-tail, All-cons, All-nil, All-weaker, All-from_get_or}
use Rattle.std.proofs.lemmas.List.Sorted.{sorted_far, sum_by-IsPermutation, All-permutation}
use Rattle.std.proofs.lemmas.List.Sums.{sum_by-cons}
use Rattle.lc_tree.specs.Build.{put_in_order, in_order}

module _ {X : Type 0} where
  -- no item is before an earlier one
  abbrev Rising : (X → X → Bool) → List X → Type 0
  Rising lt [] = Unit {0}
  Rising lt (x ∷ xs) = All (λ y. lt y x ≡ false) xs × Rising lt xs

  -- one where a test passes
  abbrev one_if : (X → Bool) → X → ℕ
  one_if p x = cond (p x) 1 0

  none_pass : (p : X → Bool) (xs : List X) → All (λ x. p x ≡ false) xs → sum_by (one_if p) xs ≡ 0
  none_pass p [] h = refl
  none_pass p (x ∷ xs) h =
      let e : one_if p x ≡ 0 = ap (λ v. cond v 1 0) (All-head (λ y. p y ≡ false) x xs h) in
      omega (arith, e, sum_by-cons (one_if p) x xs, none_pass p xs (All-tail (λ y. p y ≡ false) x xs h))

  never_before_itself : (lt : X → X → Bool) → IsStrictWeakOrder lt → (x : X) → lt x x ≡ false
  never_before_itself lt o x =
      elim (lt x x) as (λ v. lt x x ≡ v → lt x x ≡ false) [ true ↦ (λ e. o.one_way x x e) | false ↦ (λ e. e) ] refl

  -- what is in order begins with what is before nothing
  first_not_before : (lt : X → X → Bool) → IsStrictWeakOrder lt → (x y : X) (xs ys : List X) → All (λ z. lt z y ≡ false) ys → ((f : X → ℕ) → sum_by f (x ∷ xs) ≡ sum_by f (y ∷ ys)) → lt x y ≡ false
  first_not_before lt o x y xs ys h same =
      elim (lt x y) as (λ v. lt x y ≡ v → lt x y ≡ false) [
        | true ↦ (λ e.
            let p : X → Bool = λ z. lt z y in
            let none : sum_by (one_if p) (y ∷ ys) ≡ 0 = none_pass p (y ∷ ys) (All-cons (λ z. lt z y ≡ false) y ys (never_before_itself lt o y) h) in
            let one : one_if p x ≡ 1 = ap (λ v. cond v 1 0) e in
            absurd (omega (arith, one, none, same (one_if p), sum_by-cons (one_if p) x xs)))
        | false ↦ (λ e. e)
      ] refl

  -- two lists in order that hold the same are the same
  pub same_in_order : (lt : X → X → Bool) → IsStrictWeakOrder lt → (Q : X → Type 0) → ((x y : X) → Q x → Q y → lt x y ≡ false → lt y x ≡ false → x ≡ y) → (xs ys : List X) → All Q xs → All Q ys → Rising lt xs → Rising lt ys → ((f : X → ℕ) → sum_by f xs ≡ sum_by f ys) → xs ≡ ys
  same_in_order lt o Q ties [] [] qx qy rx ry same = refl
  same_in_order lt o Q ties [] (y ∷ ys) qx qy rx ry same = absurd (omega (arith, same (λ z. 1), sum_by-cons (λ (z : X). 1) y ys))
  same_in_order lt o Q ties (x ∷ xs) [] qx qy rx ry same = absurd (omega (arith, same (λ z. 1), sum_by-cons (λ (z : X). 1) x xs))
  same_in_order lt o Q ties (x ∷ xs) (y ∷ ys) qx qy rx ry same =
      let xy : lt x y ≡ false = first_not_before lt o x y xs ys ry.0 same in
      let yx : lt y x ≡ false = first_not_before lt o y x ys xs rx.0 (λ f. sym (same f)) in
      let e : x ≡ y = ties x y (All-head Q x xs qx) (All-head Q y ys qy) xy yx in
      ap₂ (λ z zs. z ∷ zs) e (same_in_order lt o Q ties xs ys (All-tail Q x xs qx) (All-tail Q y ys qy) rx.1 ry.1 (λ f. let g : f x ≡ f y = ap f e in omega (arith, g, same f, sum_by-cons f x xs, sum_by-cons f y ys)))

  sum_of_put : (lt : X → X → Bool) (f : X → ℕ) (x : X) (ys : List X) → sum_by f (put_in_order lt x ys) ≡ f x + sum_by f ys
  sum_of_put lt f x [] = sum_by-cons f x []
  sum_of_put lt f x (y ∷ ys) =
      elim (lt y x) as (λ v. sum_by f (if v then y ∷ put_in_order lt x ys else x ∷ (y ∷ ys)) ≡ f x + sum_by f (y ∷ ys)) [
        | true ↦ omega (arith, sum_of_put lt f x ys, sum_by-cons f y (put_in_order lt x ys), sum_by-cons f y ys)
        | false ↦ sum_by-cons f x (y ∷ ys)
      ]

  sum_in_order : (lt : X → X → Bool) (f : X → ℕ) (xs : List X) → sum_by f (in_order lt xs) ≡ sum_by f xs
  sum_in_order lt f [] = refl
  sum_in_order lt f (x ∷ xs) = sum_of_put lt f x (in_order lt xs) ∙ ap (λ n. f x + n) (sum_in_order lt f xs) ∙ sym (sum_by-cons f x xs)

  all_of_put : (lt : X → X → Bool) (Q : X → Type 0) (x : X) (ys : List X) → Q x → All Q ys → All Q (put_in_order lt x ys)
  all_of_put lt Q x [] q h = All-cons Q x [] q h
  all_of_put lt Q x (y ∷ ys) q h =
      elim (lt y x) as (λ v. All Q (if v then y ∷ put_in_order lt x ys else x ∷ (y ∷ ys))) [
        | true ↦ All-cons Q y (put_in_order lt x ys) (All-head Q y ys h) (all_of_put lt Q x ys q (All-tail Q y ys h))
        | false ↦ All-cons Q x (y ∷ ys) q h
      ]

  pub all_in_order : (lt : X → X → Bool) (Q : X → Type 0) (xs : List X) → All Q xs → All Q (in_order lt xs)
  all_in_order lt Q [] h = h
  all_in_order lt Q (x ∷ xs) h = all_of_put lt Q x (in_order lt xs) (All-head Q x xs h) (all_in_order lt Q xs (All-tail Q x xs h))

  put_rises : (lt : X → X → Bool) → IsStrictWeakOrder lt → (x : X) (ys : List X) → Rising lt ys → Rising lt (put_in_order lt x ys)
  put_rises lt o x [] h = (All-nil (λ z. lt z x ≡ false), tt)
  put_rises lt o x (y ∷ ys) h =
      elim (lt y x) as (λ v. lt y x ≡ v → Rising lt (if v then y ∷ put_in_order lt x ys else x ∷ (y ∷ ys))) [
        | true ↦ (λ e. (all_of_put lt (λ z. lt z y ≡ false) x ys (o.one_way y x e) h.0, put_rises lt o x ys h.1))
        | false ↦ (λ e. (All-cons (λ z. lt z x ≡ false) y ys e (All-weaker (λ z. lt z y ≡ false) (λ z. lt z x ≡ false) (λ z q. o.chain z y x q e) ys h.0), h))
      ] refl

  in_order_rises : (lt : X → X → Bool) → IsStrictWeakOrder lt → (xs : List X) → Rising lt (in_order lt xs)
  in_order_rises lt o [] = tt
  in_order_rises lt o (x ∷ xs) = put_rises lt o x (in_order lt xs) (in_order_rises lt o xs)

  -- what is never before an earlier one by place
  rises_by_place : (lt : X → X → Bool) (xs : List X) → ((i j : ℕ) (d : X) → i ≤ j → j < length xs → lt (get_or xs j d) (get_or xs i d) ≡ false) → Rising lt xs
  rises_by_place lt [] h = tt
  rises_by_place lt (x ∷ xs) h = (
    All-from_get_or (λ y. lt y x ≡ false) xs x (λ i below. h 0 (suc i) x (omega arith) (omega arith)),
    rises_by_place lt xs (λ i j d le below. h (suc i) (suc j) d (omega arith) (omega arith)),
  )

  -- a sort gives the list in order, where items that tie are the same
  pub sorted_is : (lt : X → X → Bool) → IsStrictWeakOrder lt → (Q : X → Type 0) → ((x y : X) → Q x → Q y → lt x y ≡ false → lt y x ≡ false → x ≡ y) → (xs ys : List X) → All Q xs → IsPermutation xs ys → IsSortedBy lt ys → ys ≡ in_order lt xs
  sorted_is lt o Q ties xs ys q moved sorted =
      same_in_order lt o Q ties ys (in_order lt xs) (All-permutation Q xs ys moved q) (all_in_order lt Q xs q)
      (rises_by_place lt ys (λ i j d le below. sorted_far lt o ys sorted i j d le below))
      (in_order_rises lt o xs)
      (λ f. sum_by-IsPermutation f xs ys moved ∙ sym (sum_in_order lt f xs))
