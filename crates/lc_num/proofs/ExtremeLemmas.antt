-- The lesser and the greater of two vectors, and what the code of them gives.
use Rattle.std.proofs.Common.{◌≡◌, ℕ, ◌≤◌, arith, ◌∙◌, ℤ, FitsSigned}
use Rattle.std.specs.Int.RustNames.{unsigned_abs}
use Rattle.std.specs.Int.{w64, int_min, int_max}
use Rattle.std.proofs.lemmas.Int.{ints, clamps, to_z-of_z}
use Rattle.lc_algebra.proofs.Machine.{read}
use Rattle.lc_num.specs.Vectors.{Within, greater, lesser}
use Rattle.lc_num.specs.declared.vectors.Vec3.{Vec3}

pub min_small : (a b : ℤ) (m : ℕ) → unsigned_abs a ≤ m → unsigned_abs b ≤ m → unsigned_abs (int_min a b) ≤ m
min_small a b m ha hb = omega (arith, ints, clamps)

pub max_small : (a b : ℤ) (m : ℕ) → unsigned_abs a ≤ m → unsigned_abs b ≤ m → unsigned_abs (int_max a b) ≤ m
max_small a b m ha hb = omega (arith, ints, clamps)

pub lesser_within : (m : ℕ) (a b : Vec3) → Within m a → Within m b → Within m (lesser a b)
lesser_within m a b ha hb = record {
  x = min_small a.x b.x m ha.x hb.x;
  y = min_small a.y b.y m ha.y hb.y;
  z = min_small a.z b.z m ha.z hb.z;
}

pub greater_within : (m : ℕ) (a b : Vec3) → Within m a → Within m b → Within m (greater a b)
greater_within m a b ha hb = record {
  x = max_small a.x b.x m ha.x hb.x;
  y = max_small a.y b.y m ha.y hb.y;
  z = max_small a.z b.z m ha.z hb.z;
}

-- ---- the code

pub min_read : (a b r : ℤ) → FitsSigned w64 a → FitsSigned w64 b → FitsSigned w64 r → r ≡ int_min (read w64 a) (read w64 b) → read w64 r ≡ int_min a b
min_read a b r fa fb fr e = to_z-of_z w64 r fr ∙ rw (to_z-of_z w64 a fa, to_z-of_z w64 b fb) at e

pub max_read : (a b r : ℤ) → FitsSigned w64 a → FitsSigned w64 b → FitsSigned w64 r → r ≡ int_max (read w64 a) (read w64 b) → read w64 r ≡ int_max a b
max_read a b r fa fb fr e = to_z-of_z w64 r fr ∙ rw (to_z-of_z w64 a fa, to_z-of_z w64 b fb) at e
