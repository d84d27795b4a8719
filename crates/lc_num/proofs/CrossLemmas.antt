-- Cross products: how large they are, and what the code of one gives.
use Rattle.std.proofs.Common.{◌≡◌, ℕ, ◌*◌, ◌^◌, ◌≤◌, arith, ℤ, ◌-ℤ◌, ◌*ℤ◌, [], ◌∷◌, List, FitsSigned, ◌∙◌}
use Rattle.std.specs.Int.{w64}
use Rattle.std.specs.Int.RustNames.{unsigned_abs}
use Rattle.std.proofs.lemmas.Int.{to_z-of_z}
use Rattle.lc_algebra.proofs.Poly.{Expression, var, ◌⊗◌, ◌⊖◌}
use Rattle.lc_algebra.proofs.Within.{AreWithin, none, more, within}
use Rattle.lc_algebra.proofs.Machine.{read, raw, fits_step, gives}
use Rattle.lc_num.specs.Vectors.{Within, cross}
use Rattle.lc_num.specs.declared.vectors.Vec3.{Vec3}
use Rattle.lc_num.proofs.Triples.{six, bounds, six_within}

pub cross_within : (m n : ℕ) (a b : Vec3) → Within m a → Within n b → Within (2 * (m * n)) (cross a b)
unfolding cross
cross_within m n a b ha hb =
    let sizes = six_within m n a b ha hb in
    record {
      x = omega (arith, within (six a b) (bounds m n) sizes (var 1 ⊗ var 5 ⊖ var 2 ⊗ var 4));
      y = omega (arith, within (six a b) (bounds m n) sizes (var 2 ⊗ var 3 ⊖ var 0 ⊗ var 5));
      z = omega (arith, within (six a b) (bounds m n) sizes (var 0 ⊗ var 4 ⊖ var 1 ⊗ var 3));
    }

-- ---- the code

abbrev four : ℤ → ℤ → ℤ → ℤ → List ℤ
four a b c d = a ∷ b ∷ c ∷ d ∷ []

abbrev limits : List ℕ
limits = 2 ^ 30 ∷ 2 ^ 30 ∷ 2 ^ 30 ∷ 2 ^ 30 ∷ []

abbrev products : Expression
products = var 0 ⊗ var 3 ⊖ var 1 ⊗ var 2

module _ (a b c d : ℤ) (ha : unsigned_abs a ≤ 2 ^ 30) (hb : unsigned_abs b ≤ 2 ^ 30) (hc : unsigned_abs c ≤ 2 ^ 30) (hd : unsigned_abs d ≤ 2 ^ 30) where
  sizes : AreWithin (four a b c d) limits
  sizes = more ha (more hb (more hc (more hd none)))

  pub determinant_fits : FitsSigned w64 (raw w64 (four a b c d) products)
  determinant_fits = fits_step w64 (four a b c d) limits sizes products tt

  pub determinant_is : read w64 (raw w64 (four a b c d) products) ≡ a *ℤ d -ℤ b *ℤ c
  determinant_is = gives w64 (four a b c d) limits sizes products tt

-- what `determinant` answers, as its caller knows it
pub determinant_read : (a b c d r : ℤ) → FitsSigned w64 a → FitsSigned w64 b → FitsSigned w64 c → FitsSigned w64 d → FitsSigned w64 r
    → r ≡ read w64 a *ℤ read w64 d -ℤ read w64 b *ℤ read w64 c → read w64 r ≡ a *ℤ d -ℤ b *ℤ c
determinant_read a b c d r fa fb fc fd fr e = to_z-of_z w64 r fr ∙ rw (to_z-of_z w64 a fa, to_z-of_z w64 b fb, to_z-of_z w64 c fc, to_z-of_z w64 d fd) at e
