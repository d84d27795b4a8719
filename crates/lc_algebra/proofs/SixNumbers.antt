-- Sums of products of six numbers: the identity of Lagrange and the inequality of Cauchy and Schwarz.
use Rattle.std.proofs.Common.{◌≡◌, ◌*◌, ◌≤◌, ℤ, pos, ◌+ℤ◌, ◌-ℤ◌, ◌*ℤ◌, ◌≤ℤ◌, [], ◌∷◌, refl}
use Rattle.std.specs.Int.RustNames.{unsigned_abs}
use Rattle.std.proofs.lemmas.Int.{unsigned_abs-mul}
use Rattle.lc_algebra.proofs.Poly.{var, ring, same, ◌⊕◌, ◌⊖◌, ◌⊗◌}
use Rattle.lc_algebra.proofs.Order.{square-nonneg, add-nonneg3, le_of_sum}
use Rattle.lc_algebra.proofs.Absolute.{abs_of_order}

-- the product of two triples
abbrev pub product_of : ℤ → ℤ → ℤ → ℤ → ℤ → ℤ → ℤ
product_of a b c d e f = a *ℤ d +ℤ b *ℤ e +ℤ c *ℤ f

abbrev pub cross_square : ℤ → ℤ → ℤ → ℤ → ℤ → ℤ → ℤ
cross_square a b c d e f = (b *ℤ f -ℤ c *ℤ e) *ℤ (b *ℤ f -ℤ c *ℤ e) +ℤ (c *ℤ d -ℤ a *ℤ f) *ℤ (c *ℤ d -ℤ a *ℤ f) +ℤ (a *ℤ e -ℤ b *ℤ d) *ℤ (a *ℤ e -ℤ b *ℤ d)

pub lagrange : (a b c d e f : ℤ) → product_of a b c a b c *ℤ product_of d e f d e f ≡ product_of a b c d e f *ℤ product_of a b c d e f +ℤ cross_square a b c d e f
unfolding same
lagrange a b c d e f =
    let p = var 0 in let q = var 1 in let r = var 2 in let s = var 3 in let t = var 4 in let u = var 5 in
    let x = q ⊗ u ⊖ r ⊗ t in let y = r ⊗ s ⊖ p ⊗ u in let z = p ⊗ t ⊖ q ⊗ s in
    ring (a ∷ b ∷ c ∷ d ∷ e ∷ f ∷ [])
    ((p ⊗ p ⊕ q ⊗ q ⊕ r ⊗ r) ⊗ (s ⊗ s ⊕ t ⊗ t ⊕ u ⊗ u))
    ((p ⊗ s ⊕ q ⊗ t ⊕ r ⊗ u) ⊗ (p ⊗ s ⊕ q ⊗ t ⊕ r ⊗ u) ⊕ (x ⊗ x ⊕ y ⊗ y ⊕ z ⊗ z))
    refl

pub sum_of_squares-nonneg : (a b c : ℤ) → pos 0 ≤ℤ product_of a b c a b c
sum_of_squares-nonneg a b c = add-nonneg3 (a *ℤ a) (b *ℤ b) (c *ℤ c) (square-nonneg a) (square-nonneg b) (square-nonneg c)

pub cauchy_schwarz : (a b c d e f : ℤ) → (product_of a b c d e f *ℤ product_of a b c d e f) ≤ℤ (product_of a b c a b c *ℤ product_of d e f d e f)
cauchy_schwarz a b c d e f =
    le_of_sum (product_of a b c a b c *ℤ product_of d e f d e f) (product_of a b c d e f *ℤ product_of a b c d e f) (cross_square a b c d e f)
    (lagrange a b c d e f)
    (sum_of_squares-nonneg (b *ℤ f -ℤ c *ℤ e) (c *ℤ d -ℤ a *ℤ f) (a *ℤ e -ℤ b *ℤ d))

-- the same of absolute values
pub cauchy_schwarz_absolute : (a b c d e f : ℤ) → unsigned_abs (product_of a b c d e f) * unsigned_abs (product_of a b c d e f) ≤ unsigned_abs (product_of a b c a b c) * unsigned_abs (product_of d e f d e f)
cauchy_schwarz_absolute a b c d e f =
    let p = product_of a b c d e f in
    let l = product_of a b c a b c in
    let r = product_of d e f d e f in
    let h : unsigned_abs (p *ℤ p) ≤ unsigned_abs (l *ℤ r) = abs_of_order (p *ℤ p) (l *ℤ r) (square-nonneg p) (cauchy_schwarz a b c d e f) in
    rw (unsigned_abs-mul p p, unsigned_abs-mul l r) at h
