-- Boxes of unbounded whole numbers: their points, the nearest one, and bounds of cosines over them.
use Rattle.std.specs.Prelude.{ℕ, ◌≤◌, ◌*◌, ◌⊎◌, ℤ, ◌+ℤ◌, ◌*ℤ◌, ◌≤ℤ◌}
use Rattle.std.specs.Int.{int_min, int_max}
use Rattle.lc_num.specs.Vectors.{Within, difference, square}
use Rattle.lc_num.specs.Cosines.{cosine_at_most, cos16}
use Rattle.lc_num.specs.declared.vectors.Vec3.{Vec3}

-- a box by its least and its greatest corner
pub record SpanEnds : Type 0 where
  pub lo : Vec3
  pub hi : Vec3

pub record IsOrdered (lo hi : Vec3) : Type 0 where
  pub x : lo.x ≤ℤ hi.x
  pub y : lo.y ≤ℤ hi.y
  pub z : lo.z ≤ℤ hi.z

-- the point p is in the box
pub record IsInside (box : SpanEnds) (p : Vec3) : Type 0 where
  pub x : (box.lo.x ≤ℤ p.x) × (p.x ≤ℤ box.hi.x)
  pub y : (box.lo.y ≤ℤ p.y) × (p.y ≤ℤ box.hi.y)
  pub z : (box.lo.z ≤ℤ p.z) × (p.z ≤ℤ box.hi.z)

-- each component of both corners is at most `most` in absolute value
pub record IsBoxWithin (most : ℕ) (box : SpanEnds) : Type 0 where
  pub lo : Within most box.lo
  pub hi : Within most box.hi

-- the point of the box that is nearest to x
abbrev pub nearest : Vec3 → SpanEnds → Vec3
nearest x box = record {
  x = int_max box.lo.x (int_min x.x box.hi.x);
  y = int_max box.lo.y (int_min x.y box.hi.y);
  z = int_max box.lo.z (int_min x.z box.hi.z);
}

-- the squared distance from x to the box
unfoldable pub near2 : Vec3 → SpanEnds → ℕ
near2 x box = square (difference (nearest x box) x)

-- the greatest dot product of n with a point of the box
unfoldable pub greatest_dot : Vec3 → SpanEnds → ℤ
greatest_dot n box =
    int_max (n.x *ℤ box.lo.x) (n.x *ℤ box.hi.x) +ℤ int_max (n.y *ℤ box.lo.y) (n.y *ℤ box.hi.y)
    +ℤ int_max (n.z *ℤ box.lo.z) (n.z *ℤ box.hi.z)

-- one of the two is at most 16384 in each component, and the other at most 100,100,000
abbrev pub CanBound : Vec3 → SpanEnds → Type 0
CanBound n box = (Within 16384 n × IsBoxWithin 100_100_000 box) ⊎ (Within 100_100_000 n × IsBoxWithin 16384 box)

-- a bound of `cos16` from n to the vectors of the box whose squared length is at least `least`
unfoldable pub cos_top : Vec3 → SpanEnds → ℕ → ℕ
cos_top n box least = cosine_at_most (greatest_dot n box) (square n * least)

-- no cosine from n to a vector of the box whose squared length is at least `least` is above `top`
abbrev pub BoundsCosines : Vec3 → SpanEnds → ℕ → ℕ → Type 0
BoundsCosines n box least top = (b : Vec3) → IsInside box b → least ≤ square b → cos16 n b ≤ top

-- the greatest of the four products of an end of the one interval and an end of the other
abbrev pub greatest_product : ℤ → ℤ → ℤ → ℤ → ℤ
greatest_product a_lo a_hi b_lo b_hi =
    int_max (int_max (a_lo *ℤ b_lo) (a_lo *ℤ b_hi)) (int_max (a_hi *ℤ b_lo) (a_hi *ℤ b_hi))

-- the greatest dot product of a point of the one box and a point of the other
unfoldable pub greatest_dot_of_boxes : SpanEnds → SpanEnds → ℤ
greatest_dot_of_boxes a b =
    greatest_product a.lo.x a.hi.x b.lo.x b.hi.x +ℤ greatest_product a.lo.y a.hi.y b.lo.y b.hi.y
    +ℤ greatest_product a.lo.z a.hi.z b.lo.z b.hi.z

-- a bound of `cos16` from the vectors of the first box to those of the second, where their squared lengths are at least
-- `least_n` and `least_d`
unfoldable pub emit_top : SpanEnds → ℕ → SpanEnds → ℕ → ℕ
emit_top normals least_n offsets least_d = cosine_at_most (greatest_dot_of_boxes normals offsets) (least_n * least_d)

-- no cosine from a vector of the first box to one of the second, of squared lengths of at least `least_n` and
-- `least_d`, is above `top`
abbrev pub BoundsEmission : SpanEnds → ℕ → SpanEnds → ℕ → ℕ → Type 0
BoundsEmission normals least_n offsets least_d top =
    (m d : Vec3) → IsInside normals m → IsInside offsets d → least_n ≤ square m → least_d ≤ square d → cos16 m d ≤ top
