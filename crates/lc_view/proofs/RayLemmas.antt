-- What the code of a ray computes in 64 bits.
use Rattle.std.proofs.Common.{◌≡◌, ℕ, ◌*◌, ◌^◌, ◌≤◌, arith, ap, ℤ, pos, ◌+ℤ◌, ◌*ℤ◌, List, [], ◌∷◌, FitsSigned, ◌∙◌}
use Rattle.std.specs.Int.{w64}
use Rattle.std.specs.Int.RustNames.{unsigned_abs}
use Rattle.lc_algebra.proofs.Poly.{Expression, var, ◌⊕◌, ◌⊗◌}
use Rattle.lc_algebra.proofs.Within.{AreWithin, none, more, within}
use Rattle.lc_algebra.proofs.Machine.{read, raw, read_small, fits_step, gives}
use Rattle.lc_num.specs.Vectors.{Within}
use Rattle.lc_num.specs.Cosines.{scaled}
use Rattle.lc_num.specs.declared.vectors.Vec3.{Vec3}
use Rattle.lc_view.specs.Camera.{combined}
use Rattle.lc_view.specs.declared.ray.Ray.{Ray}

-- ---- one component of three directions, each times its number

abbrev six : ℤ → ℤ → ℤ → ℤ → ℤ → ℤ → List ℤ
six f i r j u k = f ∷ i ∷ r ∷ j ∷ u ∷ k ∷ []

abbrev limits : List ℕ
limits = 16384 ∷ 655_360_000 ∷ 16384 ∷ 6_553_600_000 ∷ 16384 ∷ 6_553_600_000 ∷ []

abbrev two_terms : Expression
two_terms = var 0 ⊗ var 1 ⊕ var 2 ⊗ var 3

abbrev three_terms : Expression
three_terms = two_terms ⊕ var 4 ⊗ var 5

module _ (f i r j u k : ℤ) (hf : unsigned_abs f ≤ 16384) (hi : unsigned_abs i ≤ 655_360_000) (hr : unsigned_abs r ≤ 16384) (hj : unsigned_abs j ≤ 6_553_600_000) (hu : unsigned_abs u ≤ 16384) (hk : unsigned_abs k ≤ 6_553_600_000) where
  sizes : AreWithin (six f i r j u k) limits
  sizes = more hf (more hi (more hr (more hj (more hu (more hk none)))))

  pub two_terms_fit : FitsSigned w64 (raw w64 (six f i r j u k) two_terms)
  two_terms_fit = fits_step w64 (six f i r j u k) limits sizes two_terms tt

  pub up_fits : FitsSigned w64 (raw w64 (six f i r j u k) (var 4 ⊗ var 5))
  up_fits = fits_step w64 (six f i r j u k) limits sizes (var 4 ⊗ var 5) tt

  pub three_terms_fit : FitsSigned w64 (raw w64 (six f i r j u k) three_terms)
  three_terms_fit = fits_step w64 (six f i r j u k) limits sizes three_terms tt

  pub component_is : read w64 (raw w64 (six f i r j u k) three_terms) ≡ f *ℤ i +ℤ r *ℤ j +ℤ u *ℤ k
  component_is = gives w64 (six f i r j u k) limits sizes three_terms tt

  pub component_small : unsigned_abs (f *ℤ i +ℤ r *ℤ j +ℤ u *ℤ k) ≤ 2 ^ 60
  component_small = omega (arith, within (six f i r j u k) limits sizes three_terms)

  -- what `component` answers, as its caller knows it
  pub component_read : (z : ℤ) → unsigned_abs z ≤ 2 ^ 60 → z ≡ read w64 f *ℤ read w64 i +ℤ read w64 r *ℤ read w64 j +ℤ read w64 u *ℤ read w64 k → read w64 z ≡ f *ℤ i +ℤ r *ℤ j +ℤ u *ℤ k
  component_read z hz e =
      read_small w64 z (omega (arith, hz))
      ∙ rw (read_small w64 f (omega (arith, hf)), read_small w64 i (omega (arith, hi)), read_small w64 r (omega (arith, hr)), read_small w64 j (omega (arith, hj)), read_small w64 u (omega (arith, hu)), read_small w64 k (omega (arith, hk))) at e

-- ---- vectors

pub within_more : (m n : ℕ) (v : Vec3) → m ≤ n → Within m v → Within n v
within_more m n v less h = record { x = omega (arith, h.x); y = omega (arith, h.y); z = omega (arith, h.z) }

-- ---- a ray, by the answers of the calls that make it

pub depth_read : (z : ℤ) (n m : ℕ) → n ≤ 65_536 → n ≡ m → z ≡ pos (n * 10_000) → read w64 z ≡ pos (m * 10_000)
depth_read z n m small same e = read_small w64 z (rw e (omega (arith, small))) ∙ e ∙ ap (λ (k : ℕ). pos (k * 10_000)) same

pub widened_read : (z o offset : ℤ) (view : ℕ) → unsigned_abs z ≤ 6_553_600_000 → unsigned_abs o ≤ 65_536 → o ≡ offset → z ≡ read w64 o *ℤ pos view → read w64 z ≡ offset *ℤ pos view
widened_read z o offset view hz ho same e =
    read_small w64 z (omega (arith, hz)) ∙ e ∙ ap (λ (t : ℤ). t *ℤ pos view) (read_small w64 o (omega (arith, ho)) ∙ same)

pub same_ray : (e d way f r u forward right up : Vec3) (i j k depth x y : ℤ) → d ≡ scaled way (2 ^ 28) → way ≡ combined f i r j u k
    → f ≡ forward → r ≡ right → u ≡ up → i ≡ depth → j ≡ x → k ≡ y
    → ◌≡◌ {A = Ray} (record { e = e; d = d }) (record { e = e; d = scaled (combined forward depth right x up y) (2 ^ 28) })
same_ray e d way f r u forward right up i j k depth x y along is hf hr hu hi hj hk = cc
