-- Elements by their places, in what a list grew to.
use Rattle.std.proofs.Common.{◌≡◌, ℕ, zero, suc, ◌+◌, ◌<◌, List, [], ◌∷◌, ◌++◌, length, take, slice_get, Some, refl, ap, ◌∙◌, arith}
use Rattle.std.proofs.Math.ListN.{set}

module _ {X : Type 0} where
  pub get_set_other : (xs : List X) (i k : ℕ) (y : X) → (k ≡ i → ⊥) → slice_get (set xs i y) k ≡ slice_get xs k
  get_set_other [] i k y other = refl
  get_set_other (x ∷ xs) zero zero y other = absurd (other refl)
  get_set_other (x ∷ xs) zero (suc k) y other = refl
  get_set_other (x ∷ xs) (suc i) zero y other = refl
  get_set_other (x ∷ xs) (suc i) (suc k) y other = get_set_other xs i k y (λ e. other (ap suc e))

  pub get_set_same : (xs : List X) (i : ℕ) (y : X) → i < length xs → slice_get (set xs i y) i ≡ Some y
  get_set_same [] i y below = absurd (omega arith)
  get_set_same (x ∷ xs) zero y below = refl
  get_set_same (x ∷ xs) (suc i) y below = get_set_same xs i y (omega arith)

  pub get_take : (n : ℕ) (xs : List X) (k : ℕ) → k < n → slice_get (take n xs) k ≡ slice_get xs k
  get_take zero xs k below = absurd (omega arith)
  get_take (suc n) [] k below = refl
  get_take (suc n) (x ∷ xs) zero below = refl
  get_take (suc n) (x ∷ xs) (suc k) below = get_take n xs k (omega arith)

  pub get_front : (xs ys : List X) (k : ℕ) (x : X) → slice_get xs k ≡ Some x → slice_get (xs ++ ys) k ≡ Some x
  get_front [] ys k x e = absurd (cc)
  get_front (a ∷ xs) ys zero x e = e
  get_front (a ∷ xs) ys (suc k) x e = get_front xs ys k x e

  pub get_back : (xs ys : List X) (k : ℕ) → slice_get (xs ++ ys) (length xs + k) ≡ slice_get ys k
  get_back [] ys k = let e : 0 + k ≡ k = omega arith in ap (slice_get ys) e
  get_back (a ∷ xs) ys k =
      let e : suc (length xs) + k ≡ suc (length xs + k) = omega arith in
      ap (slice_get (a ∷ (xs ++ ys))) e ∙ get_back xs ys k
