-- What the code of a normal computes in 64 bits.
use Rattle.std.proofs.Common.{◌≡◌, ℕ, ◌^◌, ◌<◌, ◌≤◌, refl, ap, ◌∙◌, arith, ℤ, List, [], ◌∷◌, FitsSigned, unsigned_abs}
use Rattle.std.specs.Int.{w64}
use Rattle.std.proofs.Math.Nat.{div-le_of_le-mul}
use Rattle.lc_algebra.proofs.Poly.{Expression, var, ◌⊗◌, ◌⊕◌}
use Rattle.lc_algebra.proofs.Within.{AreWithin, none, more, within}
use Rattle.lc_algebra.proofs.Machine.{read, raw, read_small, fits_step, gives}
use Rattle.lc_num.specs.Cosines.{scaled}
use Rattle.lc_num.specs.declared.vectors.Vec3.{Vec3}
use Rattle.lc_geom.specs.Hits.{moved}
use Rattle.lc_geom.specs.Weights.{weights_of}
use Rattle.lc_geom.specs.declared.triangle.Tri.{Tri}
use Rattle.lc_geom.specs.declared.weights.Weights.{Weights}
use Rattle.lc_obj.specs.declared.mesh.Triple.{Triple}
use Rattle.lc_view.specs.declared.ray.Ray.{Ray}
use Rattle.lc_sample.specs.Normals.{blended, mixed, part_of, smooth, turned}

-- a part is at most all
pub part_small : (weight all : ℕ) → weight ≤ all → 0 < all → part_of weight all ≤ 2 ^ 20
part_small weight all less some = div-le_of_le-mul all (omega arith)

-- ---- the sum of three products

abbrev six : ℤ → ℤ → ℤ → ℤ → ℤ → ℤ → List ℤ
six u v w a b c = u ∷ v ∷ w ∷ a ∷ b ∷ c ∷ []

abbrev limits : List ℕ
limits = 2 ^ 20 ∷ 2 ^ 20 ∷ 2 ^ 20 ∷ 16384 ∷ 16384 ∷ 16384 ∷ []

abbrev pair : Expression
pair = var 0 ⊗ var 3 ⊕ var 1 ⊗ var 4

abbrev last : Expression
last = var 2 ⊗ var 5

abbrev whole : Expression
whole = pair ⊕ last

module _ (u v w a b c : ℤ) (hu : unsigned_abs u ≤ 2 ^ 20) (hv : unsigned_abs v ≤ 2 ^ 20) (hw : unsigned_abs w ≤ 2 ^ 20) (ha : unsigned_abs a ≤ 16384) (hb : unsigned_abs b ≤ 16384) (hc : unsigned_abs c ≤ 16384) where
  sizes : AreWithin (six u v w a b c) limits
  sizes = more hu (more hv (more hw (more ha (more hb (more hc none)))))

  pub pair_fits : FitsSigned w64 (raw w64 (six u v w a b c) pair)
  pair_fits = fits_step w64 (six u v w a b c) limits sizes pair tt

  pub last_fits : FitsSigned w64 (raw w64 (six u v w a b c) last)
  last_fits = fits_step w64 (six u v w a b c) limits sizes last tt

  pub mixed_fits : FitsSigned w64 (raw w64 (six u v w a b c) whole)
  mixed_fits = fits_step w64 (six u v w a b c) limits sizes whole tt

  pub mixed_is : read w64 (raw w64 (six u v w a b c) whole) ≡ mixed u v w a b c
  mixed_is = gives w64 (six u v w a b c) limits sizes whole tt

  pub mixed_small : unsigned_abs (mixed u v w a b c) ≤ 2 ^ 36
  mixed_small = omega (arith, within (six u v w a b c) limits sizes whole)

-- what `mixed` answers, as its caller knows it
pub mixed_read : (r u v w a b c u' v' w' : ℤ) → unsigned_abs r ≤ 2 ^ 36 → unsigned_abs u ≤ 2 ^ 20 → unsigned_abs v ≤ 2 ^ 20 → unsigned_abs w ≤ 2 ^ 20 → unsigned_abs a ≤ 16384 → unsigned_abs b ≤ 16384 → unsigned_abs c ≤ 16384
    → u ≡ u' → v ≡ v' → w ≡ w' → r ≡ mixed (read w64 u) (read w64 v) (read w64 w) (read w64 a) (read w64 b) (read w64 c) → read w64 r ≡ mixed u' v' w' a b c
mixed_read r u v w a b c u' v' w' hr hu hv hw ha hb hc eu ev ew is =
    read_small w64 r (omega (arith, hr)) ∙ is
    ∙ rw (read_small w64 u (omega (arith, hu)), read_small w64 v (omega (arith, hv)), read_small w64 w (omega (arith, hw)), read_small w64 a (omega (arith, ha)), read_small w64 b (omega (arith, hb)), read_small w64 c (omega (arith, hc)))
    (rw (eu, ev, ew) refl)

-- ---- a normal, by the answers of the calls that make it

pub smooth_is : (ray : Ray) (t : Tri) (seen : Vec3) (normals : Triple) (end : Vec3) (weights : Weights) (h m n : Vec3) → end ≡ moved ray.e ray.d → weights ≡ weights_of ray.e end t → h ≡ blended weights normals → m ≡ scaled h 16384 → n ≡ turned seen m → n ≡ smooth ray t seen normals
unfolding smooth
smooth_is ray t seen normals end weights h m n he hw hh hm hn =
    hn ∙ ap (turned seen) (hm ∙ ap (λ (v : Vec3). scaled v 16384) (hh ∙ ap (λ (x : Weights). blended x normals) (hw ∙ ap (λ (q : Vec3). weights_of ray.e q t) he)))
