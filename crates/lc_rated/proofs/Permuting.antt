-- Lists of entries in another order.
use Rattle.std.proofs.Common.{◌≡◌, ℕ, suc, ◌+◌, ◌<◌, ◌==◌, ◌&&◌, Bool, true, false, cond, List, [], ◌∷◌, ◌++◌, length, get_or, sum_by, remove, IsPermutation, refl, ap, ◌∙◌, arith}
use Rattle.std.proofs.lemmas.Bool.Decides.{nat_tests}
use Rattle.std.proofs.lemmas.List.Sums.{sum_by-append, sum_by-cons}
use Rattle.std.proofs.lemmas.List.Sorted.{IsPermutation-refl, IsPermutation-sym, IsPermutation-trans, IsPermutation-cons, IsPermutation-remove, sum_by-IsPermutation}
use Rattle.lc_heap.specs.declared.entry.Entry.{Entry}

abbrev same : Entry → Entry → Bool
same a b = a.key == b.key && (a.kind == b.kind && a.node == b.node)

abbrev made : ℕ → ℕ → ℕ → Entry
made key kind node = record { key = key; kind = kind; node = node }

same_is : (a b : Entry) → same a b ≡ true → a ≡ b
same_is a b h =
    let key : a.key ≡ b.key = grind (arith, nat_tests) in
    let kind : a.kind ≡ b.kind = grind (arith, nat_tests) in
    let node : a.node ≡ b.node = grind (arith, nat_tests) in
    ap (λ n. made n a.kind a.node) key ∙ ap (λ n. made b.key n a.node) kind ∙ ap (made b.key b.kind) node

same_itself : (a : Entry) → same a a ≡ true
same_itself a = grind (arith, nat_tests)

-- an entry that is counted stands somewhere
place_of_counted : (x : Entry) (ys : List Entry) → 0 < sum_by (λ y. cond (same x y) 1 0) ys → (i : ℕ) × (i < length ys) × (x ≡ get_or ys i x)
place_of_counted x [] h = absurd (omega arith)
place_of_counted x (y ∷ ys) h =
    elim (same x y) as (λ v. same x y ≡ v → 0 < cond v 1 0 + sum_by (λ z. cond (same x z) 1 0) ys → (i : ℕ) × (i < suc (length ys)) × (x ≡ get_or (y ∷ ys) i x)) [
      | true ↦ (λ e k. (0, omega arith, same_is x y e))
      | false ↦ (λ e k. let r = place_of_counted x ys (omega arith) in (suc r.0, omega (arith, r.1), r.2))
    ] refl (omega (arith, h, sum_by-cons (λ z. cond (same x z) 1 0) y ys))

-- lists of which each sum is the same
from_sums : (xs ys : List Entry) → ((f : Entry → ℕ) → sum_by f xs ≡ sum_by f ys) → IsPermutation xs ys
from_sums [] [] h = IsPermutation-refl []
from_sums [] (y ∷ ys) h = absurd (omega (arith, h (λ _. 1), sum_by-cons (λ _. 1) y ys))
from_sums (x ∷ xs) ys h =
    let one : Entry → ℕ = λ y. cond (same x y) 1 0 in
    let mine : one x ≡ 1 = rw (same_itself x) refl in
    let counted : 0 < sum_by one ys = omega (arith, h one, sum_by-cons one x xs, mine) in
    let r = place_of_counted x ys counted in
    let p : IsPermutation ys (x ∷ remove ys r.0) = IsPermutation-remove ys r.0 x r.1 r.2 in
    let rest : IsPermutation xs (remove ys r.0) = from_sums xs (remove ys r.0) (λ f. omega (arith, h f, sum_by-cons f x xs, sum_by-cons f x (remove ys r.0), sum_by-IsPermutation f ys (x ∷ remove ys r.0) p)) in
    IsPermutation-trans (x ∷ xs) (x ∷ remove ys r.0) ys (IsPermutation-cons x xs (remove ys r.0) rest) (IsPermutation-sym ys (x ∷ remove ys r.0) p)

-- where one stands in the middle it gives way to two: the first comes in as that one goes
pub IsPermutation-two : (xs bs es others next : List Entry) (e l r : Entry) → IsPermutation (xs ++ e ∷ bs) es → IsPermutation (l ∷ es) (e ∷ others) → IsPermutation (r ∷ others) next → IsPermutation (xs ++ (l ∷ r ∷ bs)) next
IsPermutation-two xs bs es others next e l r h taken put =
    from_sums (xs ++ (l ∷ r ∷ bs)) next
    (λ f. omega (
      arith,
      sum_by-append f xs (e ∷ bs),
      sum_by-append f xs (l ∷ r ∷ bs),
      sum_by-cons f e bs,
      sum_by-cons f l (r ∷ bs),
      sum_by-cons f r bs,
      sum_by-cons f l es,
      sum_by-cons f e others,
      sum_by-cons f r others,
      sum_by-IsPermutation f (xs ++ e ∷ bs) es h,
      sum_by-IsPermutation f (l ∷ es) (e ∷ others) taken,
      sum_by-IsPermutation f (r ∷ others) next put,
    ))
