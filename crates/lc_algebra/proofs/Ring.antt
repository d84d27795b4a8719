-- The laws of a ring for ℤ that std does not have.
use Rattle.std.proofs.Common.{◌≡◌, ℕ, ℤ, ◌*◌, ◌+ℤ◌, ◌*ℤ◌, neg_ℤ, ap, ap₂, ◌∙◌, arith}
use Rattle.std.proofs.Math.IntN.{*ℤ_comm}
use borrow.Author.Differences.{up, down, sum_is_lem, product_is, neg_is, same_in}

pub mul-add_ℤ : (a b c : ℤ) → a *ℤ (b +ℤ c) ≡ a *ℤ b +ℤ a *ℤ c
mul-add_ℤ a b c =
    let s = sum_is_lem b c in
    let s1 = ap (λ (t : ℕ). up a * t) s in
    let s2 = ap (λ (t : ℕ). down a * t) s in
    same_in _ _ (omega (arith, product_is a (b +ℤ c), product_is a b, product_is a c, sum_is_lem (a *ℤ b) (a *ℤ c), s1, s2))

pub mul_assoc_ℤ : (a b c : ℤ) → (a *ℤ b) *ℤ c ≡ a *ℤ (b *ℤ c)
mul_assoc_ℤ a b c =
    let p = product_is a b in
    let q = product_is b c in
    same_in _ _ (omega (
      arith,
      product_is (a *ℤ b) c,
      product_is a (b *ℤ c),
      ap (λ (t : ℕ). t * up c) p.0,
      ap (λ (t : ℕ). t * down c) p.0,
      ap (λ (t : ℕ). t * up c) p.1,
      ap (λ (t : ℕ). t * down c) p.1,
      ap (λ (t : ℕ). up a * t) q.0,
      ap (λ (t : ℕ). down a * t) q.0,
      ap (λ (t : ℕ). up a * t) q.1,
      ap (λ (t : ℕ). down a * t) q.1,
    ))

pub add-mul_ℤ : (a b c : ℤ) → (a +ℤ b) *ℤ c ≡ a *ℤ c +ℤ b *ℤ c
add-mul_ℤ a b c = *ℤ_comm (a +ℤ b) c ∙ mul-add_ℤ c a b ∙ ap₂ (λ x y. x +ℤ y) (*ℤ_comm c a) (*ℤ_comm c b)

pub neg-mul_ℤ : (a b : ℤ) → neg_ℤ a *ℤ b ≡ neg_ℤ (a *ℤ b)
neg-mul_ℤ a b = let n = neg_ℤ-up a in same_in _ _ (omega (arith, product_is (neg_ℤ a) b, product_is a b, neg_is (a *ℤ b), neg_is a, ap (λ (t : ℕ). t * up b) n.0, ap (λ (t : ℕ). t * down b) n.0, ap (λ (t : ℕ). t * up b) n.1, ap (λ (t : ℕ). t * down b) n.1))
  where
    neg_ℤ-up : (a : ℤ) → (up (neg_ℤ a) ≡ down a) × (down (neg_ℤ a) ≡ up a)
    neg_ℤ-up a = neg_is a
