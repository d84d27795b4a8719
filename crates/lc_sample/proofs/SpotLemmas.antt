-- What the code of a spot computes in 64 bits.
use Rattle.std.proofs.Common.{◌≡◌, ℕ, ◌^◌, ◌≤◌, refl, ap, ap₂, ◌∙◌, arith, ℤ, pos, negsuc, ◌+ℤ◌, ◌*ℤ◌, List, [], ◌∷◌, FitsSigned, unsigned_abs}
use Rattle.std.specs.Int.{int_max, int_min, w64}
use Rattle.std.specs.Int.RustNames.{int_div}
use Rattle.std.proofs.lemmas.Int.{ints, clamps}
use Rattle.lc_algebra.proofs.Poly.{Expression, var, con, ◌⊗◌, ◌⊖◌}
use Rattle.lc_algebra.proofs.Within.{AreWithin, none, more, within}
use Rattle.lc_algebra.proofs.Machine.{read, raw, read_small, fits_step, gives}
use Rattle.lc_num.specs.Vectors.{Within}
use Rattle.lc_num.specs.declared.vectors.Vec3.{Vec3}
use Rattle.lc_num.specs.declared.channels.Colour.{Colour}
use Rattle.lc_terms.specs.declared.spot.Spot.{Spot}
use Rattle.lc_view.specs.declared.ray.Ray.{Ray}
use Rattle.lc_sample.specs.declared.surface.Surface.{Surface}
use Rattle.lc_sample.specs.Normals.{facing, normal_at}
use Rattle.lc_sample.specs.Spots.{part_at, place_at, lifted, off_surface, mirrored_part, mirrored_view, spot_on}

pub within_more : (m n : ℕ) (v : Vec3) → m ≤ n → Within m v → Within n v
within_more m n v less h = record { x = omega (arith, h.x); y = omega (arith, h.y); z = omega (arith, h.z) }

-- ---- the place on a ray

pub way_short : (e d : ℤ) → unsigned_abs e ≤ 50_100_000 → unsigned_abs (e +ℤ d) ≤ 320_000_000 → unsigned_abs d ≤ 2 ^ 29
way_short e d he hs = omega (arith, ints)

place_small : (e p : ℤ) → unsigned_abs e ≤ 50_100_000 → unsigned_abs p ≤ 2 ^ 29 → unsigned_abs (e +ℤ p) ≤ 2 ^ 30
place_small e p he hp = omega (arith, ints)

-- a coordinate of the place, by the part of the way
pub coordinate_read : (e d p : ℤ) (depth : ℕ) → unsigned_abs e ≤ 50_100_000 → unsigned_abs d ≤ 2 ^ 29 → unsigned_abs p ≤ 2 ^ 29 → p ≡ part_at depth (read w64 d) → read w64 (read w64 e +ℤ read w64 p) ≡ e +ℤ part_at depth d
coordinate_read e d p depth he hd hp is =
    let same : p ≡ part_at depth d = is ∙ ap (λ (z : ℤ). part_at depth z) (read_small w64 d (omega (arith, hd))) in
    rw (read_small w64 e (omega (arith, he)), read_small w64 p (omega (arith, hp)))
    (read_small w64 (e +ℤ p) (omega (arith, place_small e p he hp)) ∙ ap (λ (z : ℤ). e +ℤ z) same)

-- ---- off the surface

abbrev least : ℤ
least = negsuc 50_099_999

abbrev greatest : ℤ
greatest = pos 50_100_000

other_order : (at by : ℤ) → int_max least (int_min (at +ℤ by) greatest) ≡ int_max least (int_min greatest (at +ℤ by))
other_order at by = omega (arith, ints, clamps)

lifted_small : (z : ℤ) → unsigned_abs (int_max least (int_min greatest z)) ≤ 50_100_000
lifted_small z = omega (arith, ints, clamps)

pub lifted_within : (place normal : Vec3) → Within 50_100_000 (off_surface place normal)
lifted_within place normal = record {
  x = lifted_small (place.x +ℤ int_div (normal.x *ℤ pos 16) (pos 16384));
  y = lifted_small (place.y +ℤ int_div (normal.y *ℤ pos 16) (pos 16384));
  z = lifted_small (place.z +ℤ int_div (normal.z *ℤ pos 16) (pos 16384));
}

sum_small : (at by : ℤ) → unsigned_abs at ≤ 2 ^ 30 → unsigned_abs by ≤ 16 → unsigned_abs (at +ℤ by) ≤ 2 ^ 31
sum_small at by ha hb = omega (arith, ints)

-- what `lifted` answers
pub lifted_is : (at normal by r : ℤ) → unsigned_abs at ≤ 2 ^ 30 → unsigned_abs normal ≤ 16384 → unsigned_abs by ≤ 16
    → by ≡ int_div (read w64 normal *ℤ pos 16) (pos 16384) → r ≡ int_max least (int_min (read w64 (read w64 at +ℤ read w64 by)) greatest) → read w64 r ≡ lifted at normal
lifted_is at normal by r ha hn hb step is =
    let same : by ≡ int_div (normal *ℤ pos 16) (pos 16384) = step ∙ ap (λ (z : ℤ). int_div (z *ℤ pos 16) (pos 16384)) (read_small w64 normal (omega (arith, hn))) in
    let sum : read w64 (read w64 at +ℤ read w64 by) ≡ at +ℤ by =
    rw (read_small w64 at (omega (arith, ha)), read_small w64 by (omega (arith, hb))) (read_small w64 (at +ℤ by) (omega (arith, sum_small at by ha hb)))
    in
    let whole : r ≡ int_max least (int_min greatest (at +ℤ by)) = is ∙ ap (λ (z : ℤ). int_max least (int_min z greatest)) sum ∙ other_order at by in
    let small : unsigned_abs r ≤ 50_100_000 = rw whole (lifted_small (at +ℤ by)) in
    read_small w64 r (omega (arith, small)) ∙ whole ∙ ap (λ (z : ℤ). int_max least (int_min greatest (at +ℤ z))) same

-- and as its caller knows it
pub lifted_read : (r at normal : ℤ) → unsigned_abs r ≤ 50_100_000 → unsigned_abs at ≤ 2 ^ 30 → unsigned_abs normal ≤ 16384 → r ≡ lifted (read w64 at) (read w64 normal) → read w64 r ≡ lifted at normal
lifted_read r at normal hr ha hn is =
    read_small w64 r (omega (arith, hr)) ∙ is ∙ ap₂ lifted (read_small w64 at (omega (arith, ha))) (read_small w64 normal (omega (arith, hn)))

-- ---- a mirrored vector

abbrev four : ℤ → ℤ → ℤ → ℤ → List ℤ
four t s n w = t ∷ s ∷ n ∷ w ∷ []

abbrev limits : List ℕ
limits = 2 ^ 30 ∷ 2 ^ 30 ∷ 16384 ∷ 16384 ∷ []

abbrev twice : Expression
twice = con (pos 2) ⊗ var 0

abbrev whole : Expression
whole = twice ⊗ var 2 ⊖ var 1 ⊗ var 3

module _ (t s n w : ℤ) (ht : unsigned_abs t ≤ 2 ^ 30) (hs : unsigned_abs s ≤ 2 ^ 30) (hn : unsigned_abs n ≤ 16384) (hw : unsigned_abs w ≤ 16384) where
  sizes : AreWithin (four t s n w) limits
  sizes = more ht (more hs (more hn (more hw none)))

  pub whole_fits : FitsSigned w64 (raw w64 (four t s n w) whole)
  whole_fits = fits_step w64 (four t s n w) limits sizes whole tt

  pub whole_is : read w64 (raw w64 (four t s n w) whole) ≡ mirrored_part t s n w
  whole_is = gives w64 (four t s n w) limits sizes whole tt

  pub whole_small : unsigned_abs (mirrored_part t s n w) ≤ 2 ^ 60
  whole_small = omega (arith, within (four t s n w) limits sizes whole)

-- what `mirrored_part` answers, as its caller knows it
pub mirrored_read : (r t s n w : ℤ) → unsigned_abs r ≤ 2 ^ 60 → unsigned_abs n ≤ 16384 → unsigned_abs w ≤ 16384 → r ≡ mirrored_part (read w64 t) (read w64 s) (read w64 n) (read w64 w) → unsigned_abs t ≤ 2 ^ 30 → unsigned_abs s ≤ 2 ^ 30 → read w64 r ≡ mirrored_part t s n w
mirrored_read r t s n w hr hn hw is ht hs =
    read_small w64 r (omega (arith, hr)) ∙ is
    ∙ rw (read_small w64 t (omega (arith, ht)), read_small w64 s (omega (arith, hs)), read_small w64 n (omega (arith, hn)), read_small w64 w (omega (arith, hw))) refl

-- ---- a spot, by the answers of the calls that make it

spot_parts : (x n r x' n' r' : Vec3) (kd ks : Colour) (ns : ℕ) → x ≡ x' → n ≡ n' → r ≡ r'
    → ◌≡◌ {A = Spot} (record { x = x; n = n; r = r; kd = kd; ks = ks; ns = ns }) (record { x = x'; n = n'; r = r'; kd = kd; ks = ks; ns = ns })
spot_parts x n r x' n' r' kd ks ns ex en er = cc

pub spot_is : (ray : Ray) (depth : ℕ) (surface : Surface) (x seen n r place : Vec3) → seen ≡ facing ray.e surface.tri → n ≡ normal_at ray surface → place ≡ place_at ray depth → x ≡ off_surface place seen → r ≡ mirrored_view ray.e x n
    → ◌≡◌ {A = Spot} (record { x = x; n = n; r = r; kd = surface.reflectance.kd; ks = surface.reflectance.ks; ns = surface.reflectance.ns }) (spot_on ray depth surface)
unfolding spot_on
spot_is ray depth surface x seen n r place hs hn hp hx hr =
    let ex : x ≡ off_surface (place_at ray depth) (facing ray.e surface.tri) = hx ∙ ap₂ off_surface hp hs in
    spot_parts x n r _ _ _ surface.reflectance.kd surface.reflectance.ks surface.reflectance.ns ex hn (hr ∙ ap₂ (mirrored_view ray.e) ex hn)
