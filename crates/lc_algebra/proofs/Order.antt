-- The order of ℤ and products.
use Rattle.std.proofs.Common.{◌≡◌, ◌⊎◌, ⊎_elim, ℤ, pos, negsuc, ◌+ℤ◌, ◌-ℤ◌, ◌*ℤ◌, ◌≤ℤ◌, [], ◌∷◌, refl, inl, inr, arith}
use Rattle.std.specs.Int.{int_max}
use Rattle.std.proofs.lemmas.Int.{ints, clamps}
use Rattle.lc_algebra.proofs.Poly.{var, con, add, mul, neg, ring, same}

pub ≤ℤ_trans : (a b c : ℤ) → a ≤ℤ b → b ≤ℤ c → a ≤ℤ c
≤ℤ_trans a b c h g = omega (arith, ints)

pub cases_sign : (a : ℤ) → (pos 0 ≤ℤ a) ⊎ (a ≤ℤ pos 0)
cases_sign (pos n) = inl (omega (arith, ints))
cases_sign (negsuc n) = inr (omega (arith, ints))

pub mul-nonneg : (a b : ℤ) → pos 0 ≤ℤ a → pos 0 ≤ℤ b → pos 0 ≤ℤ (a *ℤ b)
mul-nonneg (pos a) (pos b) h g = omega (arith, ints)
mul-nonneg (pos a) (negsuc b) h g = absurd (omega (arith, ints))
mul-nonneg (negsuc a) b h g = absurd (omega (arith, ints))

pub square-nonneg : (a : ℤ) → pos 0 ≤ℤ (a *ℤ a)
square-nonneg (pos a) = omega (arith, ints)
square-nonneg (negsuc a) = omega (arith, ints)

-- an order from a difference
pub from_difference : (a b d : ℤ) → b -ℤ a ≡ d → pos 0 ≤ℤ d → a ≤ℤ b
from_difference a b d e h = omega (arith, ints)

pub to_difference : (a b : ℤ) → a ≤ℤ b → pos 0 ≤ℤ (b -ℤ a)
to_difference a b h = omega (arith, ints)

pub mul-le_left : (c a b : ℤ) → pos 0 ≤ℤ c → a ≤ℤ b → (c *ℤ a) ≤ℤ (c *ℤ b)
unfolding same
mul-le_left c a b p h =
    from_difference (c *ℤ a) (c *ℤ b) (c *ℤ (b -ℤ a))
    (ring (a ∷ b ∷ c ∷ []) (add (mul (var 2) (var 1)) (neg (mul (var 2) (var 0)))) (mul (var 2) (add (var 1) (neg (var 0)))) refl)
    (mul-nonneg c (b -ℤ a) p (to_difference a b h))

pub mul-le_left_neg : (c a b : ℤ) → c ≤ℤ pos 0 → a ≤ℤ b → (c *ℤ b) ≤ℤ (c *ℤ a)
unfolding same
mul-le_left_neg c a b p h =
    from_difference (c *ℤ b) (c *ℤ a) ((pos 0 -ℤ c) *ℤ (b -ℤ a))
    (ring (a ∷ b ∷ c ∷ []) (add (mul (var 2) (var 0)) (neg (mul (var 2) (var 1)))) (mul (add (con (pos 0)) (neg (var 2))) (add (var 1) (neg (var 0)))) refl)
    (mul-nonneg (pos 0 -ℤ c) (b -ℤ a) (to_difference c (pos 0) p) (to_difference a b h))

pub add-nonneg3 : (a b c : ℤ) → pos 0 ≤ℤ a → pos 0 ≤ℤ b → pos 0 ≤ℤ c → pos 0 ≤ℤ (a +ℤ b +ℤ c)
add-nonneg3 a b c h g k = omega (arith, ints)

pub add-le3 : (a b c x y z : ℤ) → a ≤ℤ x → b ≤ℤ y → c ≤ℤ z → (a +ℤ b +ℤ c) ≤ℤ (x +ℤ y +ℤ z)
add-le3 a b c x y z h g k = omega (arith, ints)

pub le_of_sum : (a b c : ℤ) → a ≡ b +ℤ c → pos 0 ≤ℤ c → b ≤ℤ a
le_of_sum a b c e h = omega (arith, ints)

-- a product with a number between two is at most the greater of the products with these
pub between_products : (n lo hi b : ℤ) → lo ≤ℤ b → b ≤ℤ hi → (n *ℤ b) ≤ℤ int_max (n *ℤ lo) (n *ℤ hi)
between_products n lo hi b low high =
    ⊎_elim
    (λ (up : pos 0 ≤ℤ n). let h = mul-le_left n b hi up high in omega (arith, ints, clamps))
    (λ (down : n ≤ℤ pos 0). let h = mul-le_left_neg n lo b down low in omega (arith, ints, clamps))
    (cases_sign n)
