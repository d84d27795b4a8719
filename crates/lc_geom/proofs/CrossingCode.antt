-- What the code of the exact tests computes in 128 bits.
use Rattle.std.proofs.Common.{◌≡◌, ℕ, ◌^◌, ◌<◌, ◌≤◌, arith, ap, ◌∙◌, ℤ, pos, ◌-ℤ◌, [], ◌∷◌, FitsSigned}
use Rattle.std.specs.Int.{w128}
use Rattle.std.specs.Int.RustNames.{unsigned_abs}
use Rattle.std.proofs.lemmas.Int.{ints}
use Rattle.lc_num.specs.Vectors.{Within}
use Rattle.lc_num.specs.declared.vectors.Vec3.{Vec3}
use Rattle.lc_algebra.proofs.Poly.{Expression, var, con, ◌⊖◌}
use Rattle.lc_algebra.proofs.Within.{none, more}
use Rattle.lc_algebra.proofs.Machine.{read, read_small, fits_step, gives}

pub read_short : (z : ℤ) → unsigned_abs z < 2 ^ 87 → read w128 z ≡ z
read_short z h = read_small w128 z (omega (arith, h))

pub negative_fits : (z : ℤ) → unsigned_abs z ≤ 2 ^ 87 → FitsSigned w128 (pos 0 -ℤ read w128 z)
negative_fits z h = fits_step w128 (z ∷ []) (2 ^ 87 ∷ []) (more h none) (con (pos 0) ⊖ var 0) tt

pub negative_gives : (z : ℤ) → unsigned_abs z ≤ 2 ^ 87 → read w128 (pos 0 -ℤ read w128 z) ≡ pos 0 -ℤ z
negative_gives z h = gives w128 (z ∷ []) (2 ^ 87 ∷ []) (more h none) (con (pos 0) ⊖ var 0) tt

pub negative_small : (z : ℤ) → unsigned_abs z < 2 ^ 87 → unsigned_abs (pos 0 -ℤ z) < 2 ^ 87
negative_small z h = omega (arith, ints, h)

pub within_more : (m n : ℕ) (v : Vec3) → m ≤ n → Within m v → Within n v
within_more m n v less h = record { x = omega (arith, h.x); y = omega (arith, h.y); z = omega (arith, h.z) }

abbrev rest_of : Expression
rest_of = var 1 ⊖ var 0 ⊖ var 2 ⊖ var 3

module _ (s e u v : ℤ) (hs : unsigned_abs s ≤ 2 ^ 87) (he : unsigned_abs e ≤ 2 ^ 87) (hu : unsigned_abs u ≤ 2 ^ 87) (hv : unsigned_abs v ≤ 2 ^ 87) where
  pub rest_fits : FitsSigned w128 (read w128 (read w128 (read w128 e -ℤ read w128 s) -ℤ read w128 u) -ℤ read w128 v)
  rest_fits = fits_step w128 (s ∷ e ∷ u ∷ v ∷ []) (2 ^ 87 ∷ 2 ^ 87 ∷ 2 ^ 87 ∷ 2 ^ 87 ∷ []) (more hs (more he (more hu (more hv none)))) rest_of tt

  pub rest_gives : read w128 (read w128 (read w128 (read w128 e -ℤ read w128 s) -ℤ read w128 u) -ℤ read w128 v) ≡ (e -ℤ s) -ℤ u -ℤ v
  rest_gives = gives w128 (s ∷ e ∷ u ∷ v ∷ []) (2 ^ 87 ∷ 2 ^ 87 ∷ 2 ^ 87 ∷ 2 ^ 87 ∷ []) (more hs (more he (more hu (more hv none)))) rest_of tt

pub rest_small : (s e u v : ℤ) → unsigned_abs s < 2 ^ 87 → unsigned_abs e < 2 ^ 87 → unsigned_abs u < 2 ^ 87 → unsigned_abs v < 2 ^ 87 → unsigned_abs ((e -ℤ s) -ℤ u -ℤ v) < 2 ^ 90
rest_small s e u v hs he hu hv = omega (arith, ints)

-- the third volume, as its caller knows it
pub rest_read : (s e u v r x : ℤ) → unsigned_abs s < 2 ^ 87 → unsigned_abs e < 2 ^ 87 → unsigned_abs u < 2 ^ 87 → unsigned_abs v < 2 ^ 87 → unsigned_abs r < 2 ^ 90
    → r ≡ (read w128 e -ℤ read w128 s) -ℤ read w128 u -ℤ read w128 v → (e -ℤ s) -ℤ u -ℤ v ≡ x → read w128 r ≡ x
rest_read s e u v r x hs he hu hv hr is sum =
    read_small w128 r (omega (arith, hr)) ∙ is ∙ rw (read_short s hs, read_short e he, read_short u hu, read_short v hv) sum

pub size_read : (n : ℕ) (z x : ℤ) → unsigned_abs z < 2 ^ 90 → n ≡ unsigned_abs (read w128 z) → z ≡ x → n ≡ unsigned_abs x
size_read n z x small is same = is ∙ rw (read_small w128 z (omega (arith, small))) (ap (λ (y : ℤ). unsigned_abs y) same)
