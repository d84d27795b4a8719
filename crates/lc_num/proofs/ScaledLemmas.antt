-- What the code of `scaled` asks and gives.
use Rattle.std.proofs.Common.{◌≡◌, ℕ, zero, suc, ◌*◌, ◌/◌, ◌^◌, ◌<◌, ◌≤◌, true, false, arith, refl, sym, ap, ◌∙◌, ⊎_elim, ℤ, pos, negsuc, ◌*ℤ◌, ◌-ℤ◌, to_z, FitsSigned}
use Rattle.std.specs.Int.RustNames.{unsigned_abs, int_div, int_lt}
use Rattle.std.specs.Int.{w64}
use lib.IntN.{neg_ℤ}
use Rattle.std.proofs.lemmas.Int.{to_z-of_z, to_z_pos}
use Rattle.std.proofs.lemmas.Nat.{mul-le}
use Rattle.std.proofs.lemmas.Bool.{cases_lt}
use Rattle.std.proofs.lemmas.Bool.Decides.{nat_tests}
use Rattle.std.proofs.Math.IntN.{+ℤ_idl}
use Rattle.std.specs.Prelude.{◌==◌}
use Rattle.std.proofs.Math.Nat.{div-le_of_le-mul, zero-div}
use Rattle.lc_algebra.specs.Roots.{isqrt}
use Rattle.lc_num.specs.Vectors.{Within, square, zero_vector}
use Rattle.lc_num.specs.Cosines.{scaled}
use Rattle.lc_num.specs.declared.vectors.Vec3.{Vec3}
use Rattle.lc_algebra.proofs.Roots.{isqrt-high, isqrt-low, isqrt-greatest}
use Rattle.lc_algebra.proofs.Absolute.{abs_of_negative}
use Rattle.lc_algebra.proofs.Machine.{read, read_small}
use Rattle.lc_num.proofs.SquareLemmas.{square-is}

pub eqb_no : (a b : ℕ) → b < a → (a == b) ≡ false
eqb_no a b h = grind (arith, nat_tests)

pub scaled_zero : (v : Vec3) (l : ℕ) → isqrt (square v) ≡ 0 → zero_vector ≡ scaled v l
unfolding scaled
scaled_zero v l none =
    let high = rw none at (isqrt-high (square v)) in
    let e : square v ≡ 0 = omega arith in
    rw e refl

pub scaled_parts : (v : Vec3) (l : ℕ) → 0 < isqrt (square v) → scaled v l ≡ record { x = int_div (pos l *ℤ v.x) (pos (isqrt (square v))); y = int_div (pos l *ℤ v.y) (pos (isqrt (square v))); z = int_div (pos l *ℤ v.z) (pos (isqrt (square v))) }
unfolding scaled
scaled_parts v l some =
    let low = isqrt-low (square v) in
    let one = mul-le 1 1 (isqrt (square v)) (isqrt (square v)) some some in
    let no : (square v == 0) ≡ false = eqb_no (square v) 0 (omega arith) in
    rw no refl

pub record BelowLength (v : Vec3) : Type 0 where
  pub x : unsigned_abs v.x ≤ isqrt (square v)
  pub y : unsigned_abs v.y ≤ isqrt (square v)
  pub z : unsigned_abs v.z ≤ isqrt (square v)

pub below_length : (v : Vec3) → BelowLength v
below_length v =
    let s = square-is v in
    record {
      x = isqrt-greatest _ _ (omega arith);
      y = isqrt-greatest _ _ (omega arith);
      z = isqrt-greatest _ _ (omega arith);
    }

-- a quotient of a negative number, toward zero
pub quotient_negative : (m n : ℕ) → int_div (neg_ℤ (pos m)) (pos n) ≡ neg_ℤ (pos (m / n))
quotient_negative zero n = let e : 0 / n ≡ 0 = zero-div n in rw e refl
quotient_negative (suc m) n = refl

-- the negative half of the code of `part`
pub part_code : (l length size : ℕ) (a : ℤ) → FitsSigned w64 a → l ≤ 2 ^ 28 → 0 < length → unsigned_abs a ≤ length → size ≡ unsigned_abs (read w64 a) → int_lt (read w64 a) (pos 0) ≡ true → read w64 (pos 0 -ℤ to_z w64 (l * size / length)) ≡ int_div (pos l *ℤ a) (pos length)
part_code l length size (pos a) f hl some below is negative = absurd (let h = rw (to_z-of_z w64 (pos a) f) at negative in grind (arith, nat_tests))
part_code l length size (negsuc a) f hl some below is negative =
    let e : size ≡ suc a = is ∙ ap unsigned_abs (to_z-of_z w64 (negsuc a) f) in
    let q : l * suc a / length ≤ l = div-le_of_le-mul length (let m = mul-le l (suc a) l length (omega arith) below in omega arith) in
    let top : to_z w64 (l * suc a / length) ≡ pos (l * suc a / length) = to_z_pos w64 _ (omega arith) in
    rw (e, top, +ℤ_idl)
    (read_small w64 (neg_ℤ (pos (l * suc a / length))) (rw abs_of_negative (omega arith)) ∙ sym (quotient_negative (l * suc a) length))

-- what `part` answers, as its caller reads it
pub part_read : (l length true_length : ℕ) (a r : ℤ) → FitsSigned w64 a → FitsSigned w64 r → length ≡ true_length → r ≡ int_div (pos l *ℤ read w64 a) (pos length) → read w64 r ≡ int_div (pos l *ℤ a) (pos true_length)
part_read l length true_length a r fa fr same e =
    to_z-of_z w64 r fr ∙ e ∙ ap (λ (z : ℤ). int_div (pos l *ℤ z) (pos length)) (to_z-of_z w64 a fa) ∙ ap (λ (n : ℕ). int_div (pos l *ℤ a) (pos n)) same

-- a part of l is at most l
part_within : (l m : ℕ) (a : ℤ) → unsigned_abs a ≤ m → unsigned_abs (int_div (pos l *ℤ a) (pos m)) ≤ l
part_within l m (pos k) below = div-le_of_le-mul m (let h = mul-le l k l m (omega arith) below in omega arith)
part_within l m (negsuc k) below = rw (quotient_negative (l * suc k) m, abs_of_negative) (div-le_of_le-mul m (let h = mul-le l (suc k) l m (omega arith) below in omega arith))

pub scaled_within : (v : Vec3) (l : ℕ) → Within l (scaled v l)
scaled_within v l =
    ⊎_elim
    (λ (some : 0 < isqrt (square v)).
    let below = below_length v in
    rw (scaled_parts v l some)
    (record {
      x = part_within l (isqrt (square v)) v.x below.x;
      y = part_within l (isqrt (square v)) v.y below.y;
      z = part_within l (isqrt (square v)) v.z below.z;
    }))
    (λ (none : isqrt (square v) ≤ 0).
    let zero_root : isqrt (square v) ≡ 0 = omega arith in
    rw (← scaled_zero v l zero_root) (record { x = omega arith; y = omega arith; z = omega arith }))
    (cases_lt 0 (isqrt (square v)))
