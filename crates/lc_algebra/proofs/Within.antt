-- How large the value of an expression can be: `within` bounds it by a number that computes.
use Rattle.std.proofs.Common.{ℕ, zero, suc, ◌+◌, ◌*◌, ◌^◌, ◌≤◌, ℤ, List, [], ◌∷◌, le_trans, le_refl, zero-le, add-le-add, mul-le-mul, le_of_eq, lt_of_le_of_lt, T, ltb, ltb→lt, FitsSigned}
use Rattle.std.specs.Int.{Width}
use mir.Val.{hbits}
use Rattle.std.proofs.lemmas.Int.{fits_signed_from_abs, unsigned_abs-mul}
use Rattle.std.proofs.Common.{unsigned_abs}
use Rattle.lc_algebra.proofs.Absolute.{abs-plus, abs-minus, abs-neg}
use Rattle.lc_algebra.proofs.Poly.{Expression, var, con, add, mul, sub, neg, value, variable_at}

-- each number is between minus and plus its bound
pub data AreWithin : List ℤ → List ℕ → Type 0 where
  none : AreWithin [] []
  more : {x : ℤ} {m : ℕ} {xs : List ℤ} {ms : List ℕ} → unsigned_abs x ≤ m → AreWithin xs ms → AreWithin (x ∷ xs) (m ∷ ms)

abbrev pub bound_at : List ℕ → ℕ → ℕ
bound_at [] n = 0
bound_at (m ∷ ms) zero = m
bound_at (m ∷ ms) (suc n) = bound_at ms n

abbrev pub size : List ℕ → Expression → ℕ
size ms (var n) = bound_at ms n
size ms (con c) = unsigned_abs c
size ms (add a b) = size ms a + size ms b
size ms (mul a b) = size ms a * size ms b
size ms (sub a b) = size ms a + size ms b
size ms (neg a) = size ms a

variable_within : (r : List ℤ) (ms : List ℕ) → AreWithin r ms → (n : ℕ) → unsigned_abs (variable_at r n) ≤ bound_at ms n
variable_within [] [] none zero = zero-le
variable_within [] [] none (suc n) = zero-le
variable_within (x ∷ xs) (m ∷ ms) (more h hs) zero = h
variable_within (x ∷ xs) (m ∷ ms) (more h hs) (suc n) = variable_within xs ms hs n
variable_within [] (m ∷ ms) h n = elim h [ ]
variable_within (x ∷ xs) [] h n = elim h [ ]

pub within : (r : List ℤ) (ms : List ℕ) → AreWithin r ms → (e : Expression) → unsigned_abs (value r e) ≤ size ms e
within r ms h (var n) = variable_within r ms h n
within r ms h (con c) = le_refl (unsigned_abs c)
within r ms h (add a b) = le_trans (abs-plus (value r a) (value r b)) (add-le-add (within r ms h a) (within r ms h b))
within r ms h (mul a b) = le_trans (le_of_eq (unsigned_abs-mul (value r a) (value r b))) (mul-le-mul (within r ms h a) (within r ms h b))
within r ms h (sub a b) = le_trans (abs-minus (value r a) (value r b)) (add-le-add (within r ms h a) (within r ms h b))
within r ms h (neg a) = le_trans (abs-neg (value r a)) (within r ms h a)

-- it fits a signed type, by a test that computes: `fits w r ms h e tt`
pub fits : (w : Width) (r : List ℤ) (ms : List ℕ) → AreWithin r ms → (e : Expression) → T (ltb (size ms e) (2 ^ hbits w)) → FitsSigned w (value r e)
fits w r ms h e t = fits_signed_from_abs w (value r e) (lt_of_le_of_lt (within r ms h e) (ltb→lt _ _ t))
