-- What boxes that are made of coordinates hold.
use Rattle.std.proofs.Common.{◌≡◌, ◌∙◌, ap, ap₂, ℤ, ◌≤ℤ◌, arith, FitsSigned}
use Rattle.std.specs.Int.{w32, int_min, int_max}
use Rattle.std.proofs.lemmas.Int.{ints, clamps, to_z-of_z}
use Rattle.lc_algebra.proofs.Machine.{read}
use Rattle.lc_algebra.proofs.Order.{≤ℤ_trans}
use Rattle.lc_num.specs.Vectors.{greater, lesser}
use Rattle.lc_num.specs.declared.vectors.Vec3.{Vec3}
use Rattle.lc_geom.specs.declared.triangle.Tri.{Tri}
use Rattle.lc_hier.specs.declared.bounds.Bounds.{Bounds}
use Rattle.lc_hier.specs.Boxes.{IsInBounds, Holds, place_of}

-- a box reaches as far as another on each axis
pub record Covers (outer inner : Bounds) : Type 0 where
  pub low_x : outer.low.x ≤ℤ inner.low.x
  pub low_y : outer.low.y ≤ℤ inner.low.y
  pub low_z : outer.low.z ≤ℤ inner.low.z
  pub high_x : inner.high.x ≤ℤ outer.high.x
  pub high_y : inner.high.y ≤ℤ outer.high.y
  pub high_z : inner.high.z ≤ℤ outer.high.z

covered_place : (outer inner : Bounds) (v : Vec3) → Covers outer inner → IsInBounds inner v → IsInBounds outer v
covered_place outer inner v c h = record {
  low_x = ≤ℤ_trans outer.low.x inner.low.x v.x c.low_x h.low_x;
  high_x = ≤ℤ_trans v.x inner.high.x outer.high.x h.high_x c.high_x;
  low_y = ≤ℤ_trans outer.low.y inner.low.y v.y c.low_y h.low_y;
  high_y = ≤ℤ_trans v.y inner.high.y outer.high.y h.high_y c.high_y;
  low_z = ≤ℤ_trans outer.low.z inner.low.z v.z c.low_z h.low_z;
  high_z = ≤ℤ_trans v.z inner.high.z outer.high.z h.high_z c.high_z;
}

pub covered : (outer inner : Bounds) (t : Tri) → Covers outer inner → Holds inner t → Holds outer t
covered outer inner t c h = record { a = covered_place outer inner t.a c h.a; b = covered_place outer inner t.b c h.b; c = covered_place outer inner t.c c h.c }

least_of_two : (x a b : ℤ) → x ≡ int_min a b → (x ≤ℤ a) × (x ≤ℤ b)
least_of_two x a b e = (omega (arith, ints, clamps), omega (arith, ints, clamps))

greatest_of_two : (x a b : ℤ) → x ≡ int_max a b → (a ≤ℤ x) × (b ≤ℤ x)
greatest_of_two x a b e = (omega (arith, ints, clamps), omega (arith, ints, clamps))

least_of_three : (x a b c : ℤ) → x ≡ int_min (int_min a b) c → (x ≤ℤ a) × (x ≤ℤ b) × (x ≤ℤ c)
least_of_three x a b c e = (omega (arith, ints, clamps), omega (arith, ints, clamps), omega (arith, ints, clamps))

greatest_of_three : (x a b c : ℤ) → x ≡ int_max (int_max a b) c → (a ≤ℤ x) × (b ≤ℤ x) × (c ≤ℤ x)
greatest_of_three x a b c e = (omega (arith, ints, clamps), omega (arith, ints, clamps), omega (arith, ints, clamps))

-- the box of the least and the greatest coordinates of the corners
pub held : (t : Tri) (box : Bounds) → place_of box.low ≡ lesser (lesser t.a t.b) t.c → place_of box.high ≡ greater (greater t.a t.b) t.c → Holds box t
held t box e f =
    let lx = least_of_three box.low.x t.a.x t.b.x t.c.x (ap (λ (v : Vec3). v.x) e) in
    let ly = least_of_three box.low.y t.a.y t.b.y t.c.y (ap (λ (v : Vec3). v.y) e) in
    let lz = least_of_three box.low.z t.a.z t.b.z t.c.z (ap (λ (v : Vec3). v.z) e) in
    let hx = greatest_of_three box.high.x t.a.x t.b.x t.c.x (ap (λ (v : Vec3). v.x) f) in
    let hy = greatest_of_three box.high.y t.a.y t.b.y t.c.y (ap (λ (v : Vec3). v.y) f) in
    let hz = greatest_of_three box.high.z t.a.z t.b.z t.c.z (ap (λ (v : Vec3). v.z) f) in
    record {
      a = record { low_x = lx.0; high_x = hx.0; low_y = ly.0; high_y = hy.0; low_z = lz.0; high_z = hz.0 };
      b = record { low_x = lx.1; high_x = hx.1; low_y = ly.1; high_y = hy.1; low_z = lz.1; high_z = hz.1 };
      c = record { low_x = lx.2; high_x = hx.2; low_y = ly.2; high_y = hy.2; low_z = lz.2; high_z = hz.2 };
    }

-- the box of the least and the greatest coordinates of two boxes
pub covers_both : (box one other : Bounds) → place_of box.low ≡ lesser (place_of one.low) (place_of other.low) → place_of box.high ≡ greater (place_of one.high) (place_of other.high) → Covers box one × Covers box other
covers_both box one other e f =
    let lx = least_of_two box.low.x one.low.x other.low.x (ap (λ (v : Vec3). v.x) e) in
    let ly = least_of_two box.low.y one.low.y other.low.y (ap (λ (v : Vec3). v.y) e) in
    let lz = least_of_two box.low.z one.low.z other.low.z (ap (λ (v : Vec3). v.z) e) in
    let hx = greatest_of_two box.high.x one.high.x other.high.x (ap (λ (v : Vec3). v.x) f) in
    let hy = greatest_of_two box.high.y one.high.y other.high.y (ap (λ (v : Vec3). v.y) f) in
    let hz = greatest_of_two box.high.z one.high.z other.high.z (ap (λ (v : Vec3). v.z) f) in
    (record { low_x = lx.0; low_y = ly.0; low_z = lz.0; high_x = hx.0; high_y = hy.0; high_z = hz.0 }, record { low_x = lx.1; low_y = ly.1; low_z = lz.1; high_x = hx.1; high_y = hy.1; high_z = hz.1 })

-- ---- the code
pub min_read : (a b r : ℤ) → FitsSigned w32 a → FitsSigned w32 b → FitsSigned w32 r → r ≡ int_min (read w32 a) (read w32 b) → read w32 r ≡ int_min a b
min_read a b r fa fb fr e = to_z-of_z w32 r fr ∙ e ∙ ap₂ (λ x y. int_min x y) (to_z-of_z w32 a fa) (to_z-of_z w32 b fb)

pub max_read : (a b r : ℤ) → FitsSigned w32 a → FitsSigned w32 b → FitsSigned w32 r → r ≡ int_max (read w32 a) (read w32 b) → read w32 r ≡ int_max a b
max_read a b r fa fb fr e = to_z-of_z w32 r fr ∙ e ∙ ap₂ (λ x y. int_max x y) (to_z-of_z w32 a fa) (to_z-of_z w32 b fb)
