-- Absolute values of sums, differences, products and squares.
use Rattle.std.proofs.Common.{◌≡◌, ℕ, zero, suc, ◌+◌, ◌*◌, ◌≤◌, arith, refl, ℤ, pos, negsuc, ◌+ℤ◌, ◌-ℤ◌, ◌*ℤ◌, neg_ℤ, ◌≤ℤ◌}
use Rattle.std.specs.Int.RustNames.{unsigned_abs}
use Rattle.std.proofs.lemmas.Int.{ints, unsigned_abs-mul}
use Rattle.std.proofs.lemmas.Nat.{mul-le}

pub abs-plus : (a b : ℤ) → unsigned_abs (a +ℤ b) ≤ unsigned_abs a + unsigned_abs b
abs-plus a b = omega (arith, ints)

pub abs-minus : (a b : ℤ) → unsigned_abs (a -ℤ b) ≤ unsigned_abs a + unsigned_abs b
abs-minus a b = omega (arith, ints)

pub abs-neg : (a : ℤ) → unsigned_abs (neg_ℤ a) ≤ unsigned_abs a
abs-neg a = omega (arith, ints)

pub abs-times : (a b : ℤ) (m n : ℕ) → unsigned_abs a ≤ m → unsigned_abs b ≤ n → unsigned_abs (a *ℤ b) ≤ m * n
abs-times a b m n h k = rw unsigned_abs-mul (mul-le _ _ m n h k)

pub abs_of_negative : (m : ℕ) → unsigned_abs (neg_ℤ (pos m)) ≡ m
abs_of_negative zero = refl
abs_of_negative (suc m) = refl

pub square_is_pos : (a : ℤ) → a *ℤ a ≡ pos (unsigned_abs a * unsigned_abs a)
square_is_pos (pos a) = refl
square_is_pos (negsuc a) = refl

-- a number that is not negative is its absolute value
pub pos_of_abs : (a : ℤ) → pos 0 ≤ℤ a → a ≡ pos (unsigned_abs a)
pos_of_abs a h = omega (arith, ints)

pub abs_of_order : (a b : ℤ) → pos 0 ≤ℤ a → a ≤ℤ b → unsigned_abs a ≤ unsigned_abs b
abs_of_order a b h g = omega (arith, ints)

pub abs-sum3 : (a b c : ℤ) (m : ℕ) → unsigned_abs a ≤ m → unsigned_abs b ≤ m → unsigned_abs c ≤ m → unsigned_abs (a +ℤ b +ℤ c) ≤ 3 * m
abs-sum3 a b c m ha hb hc = omega (arith, abs-plus a b, abs-plus (a +ℤ b) c)
