-- Laws of boxes.
use Rattle.std.proofs.Common.{ℕ, ◌+◌, ◌≤◌, ◌⊎◌, inl, inr, arith, ℤ, ◌-ℤ◌, ◌≤ℤ◌}
use Rattle.std.specs.Int.RustNames.{unsigned_abs}
use Rattle.std.specs.Int.{int_min, int_max}
use Rattle.std.proofs.lemmas.Int.{ints, clamps}
use Rattle.lc_num.specs.Vectors.{Within, difference, greater, lesser}
use Rattle.lc_num.specs.Boxes.{SpanEnds, IsOrdered, IsInside, IsBoxWithin}
use Rattle.lc_num.specs.declared.vectors.Vec3.{Vec3}
use Rattle.lc_num.proofs.ExtremeLemmas.{greater_within, lesser_within}
use Rattle.lc_bound.specs.Hull.{point_box, hull, box_from, box_to}

≤ℤ_same : (a : ℤ) → a ≤ℤ a
≤ℤ_same a = omega (arith, ints)

pub point_box-inside : (p : Vec3) → IsInside (point_box p) p
point_box-inside p = record {
  x = (≤ℤ_same p.x, ≤ℤ_same p.x);
  y = (≤ℤ_same p.y, ≤ℤ_same p.y);
  z = (≤ℤ_same p.z, ≤ℤ_same p.z);
}

pub point_box-within : (m : ℕ) (p : Vec3) → Within m p → IsBoxWithin m (point_box p)
point_box-within m p h = record { lo = h; hi = h }

-- ---- around two boxes

pub hull-within : (m : ℕ) (a b : SpanEnds) → IsBoxWithin m a → IsBoxWithin m b → IsBoxWithin m (hull a b)
hull-within m a b ha hb =
    record { lo = lesser_within m a.lo b.lo ha.lo hb.lo; hi = greater_within m a.hi b.hi ha.hi hb.hi }

from_left : (lo hi p lo2 hi2 : ℤ) → (lo ≤ℤ p) × (p ≤ℤ hi) → (int_min lo lo2 ≤ℤ p) × (p ≤ℤ int_max hi hi2)
from_left lo hi p lo2 hi2 h =
    let low = h.0 in let high = h.1 in (omega (arith, ints, clamps), omega (arith, ints, clamps))

from_right : (lo hi p lo2 hi2 : ℤ) → (lo2 ≤ℤ p) × (p ≤ℤ hi2) → (int_min lo lo2 ≤ℤ p) × (p ≤ℤ int_max hi hi2)
from_right lo hi p lo2 hi2 h =
    let low = h.0 in let high = h.1 in (omega (arith, ints, clamps), omega (arith, ints, clamps))

pub hull-inside : (a b : SpanEnds) (p : Vec3) → IsInside a p ⊎ IsInside b p → IsInside (hull a b) p
hull-inside a b p (inl h) = record {
  x = from_left a.lo.x a.hi.x p.x b.lo.x b.hi.x h.x;
  y = from_left a.lo.y a.hi.y p.y b.lo.y b.hi.y h.y;
  z = from_left a.lo.z a.hi.z p.z b.lo.z b.hi.z h.z;
}
hull-inside a b p (inr h) = record {
  x = from_right a.lo.x a.hi.x p.x b.lo.x b.hi.x h.x;
  y = from_right a.lo.y a.hi.y p.y b.lo.y b.hi.y h.y;
  z = from_right a.lo.z a.hi.z p.z b.lo.z b.hi.z h.z;
}

around : (lo hi lo2 hi2 : ℤ) → lo ≤ℤ hi → int_min lo lo2 ≤ℤ int_max hi hi2
around lo hi lo2 hi2 h = omega (arith, ints, clamps)

pub hull-ordered : (a b c d : Vec3) → IsOrdered a c → IsOrdered (lesser a b) (greater c d)
hull-ordered a b c d h =
    record { x = around a.x c.x b.x d.x h.x; y = around a.y c.y b.y d.y h.y; z = around a.z c.z b.z d.z h.z }

-- ---- as seen from a place

pub within_more : (m n : ℕ) (v : Vec3) → m ≤ n → Within m v → Within n v
within_more m n v more h = record { x = omega (arith, h.x); y = omega (arith, h.y); z = omega (arith, h.z) }

difference_small : (m n : ℕ) (a b : ℤ) → unsigned_abs a ≤ m → unsigned_abs b ≤ n → unsigned_abs (a -ℤ b) ≤ m + n
difference_small m n a b ha hb = omega (arith, ints)

pub difference-within : (m n : ℕ) (a b : Vec3) → Within m a → Within n b → Within (m + n) (difference a b)
difference-within m n a b ha hb = record {
  x = difference_small m n a.x b.x ha.x hb.x;
  y = difference_small m n a.y b.y ha.y hb.y;
  z = difference_small m n a.z b.z ha.z hb.z;
}

pub box_from-within : (m n : ℕ) (x : Vec3) (box : SpanEnds) → Within m x → IsBoxWithin n box
    → IsBoxWithin (n + m) (box_from x box)
box_from-within m n x box hx hb =
    record { lo = difference-within n m box.lo x hb.lo hx; hi = difference-within n m box.hi x hb.hi hx }

moved : (lo hi p x : ℤ) → (lo ≤ℤ p) × (p ≤ℤ hi) → ((lo -ℤ x) ≤ℤ (p -ℤ x)) × ((p -ℤ x) ≤ℤ (hi -ℤ x))
moved lo hi p x h = let low = h.0 in let high = h.1 in (omega (arith, ints), omega (arith, ints))

moved_order : (a b x : ℤ) → a ≤ℤ b → (a -ℤ x) ≤ℤ (b -ℤ x)
moved_order a b x h = omega (arith, ints)

pub box_from-ordered : (a b x : Vec3) → IsOrdered a b → IsOrdered (difference a x) (difference b x)
box_from-ordered a b x h =
    record { x = moved_order a.x b.x x.x h.x; y = moved_order a.y b.y x.y h.y; z = moved_order a.z b.z x.z h.z }

pub box_from-inside : (x : Vec3) (box : SpanEnds) (p : Vec3) → IsInside box p → IsInside (box_from x box) (difference p x)
box_from-inside x box p h = record {
  x = moved box.lo.x box.hi.x p.x x.x h.x;
  y = moved box.lo.y box.hi.y p.y x.y h.y;
  z = moved box.lo.z box.hi.z p.z x.z h.z;
}

-- ---- as a place is seen from it

pub box_to-within : (m n : ℕ) (x : Vec3) (box : SpanEnds) → Within m x → IsBoxWithin n box
    → IsBoxWithin (m + n) (box_to x box)
box_to-within m n x box hx hb =
    record { lo = difference-within m n x box.hi hx hb.hi; hi = difference-within m n x box.lo hx hb.lo }

turned : (lo hi p x : ℤ) → (lo ≤ℤ p) × (p ≤ℤ hi) → ((x -ℤ hi) ≤ℤ (x -ℤ p)) × ((x -ℤ p) ≤ℤ (x -ℤ lo))
turned lo hi p x h = let low = h.0 in let high = h.1 in (omega (arith, ints), omega (arith, ints))

turned_order : (a b x : ℤ) → a ≤ℤ b → (x -ℤ b) ≤ℤ (x -ℤ a)
turned_order a b x h = omega (arith, ints)

pub box_to-ordered : (a b x : Vec3) → IsOrdered a b → IsOrdered (difference x b) (difference x a)
box_to-ordered a b x h =
    record { x = turned_order a.x b.x x.x h.x; y = turned_order a.y b.y x.y h.y; z = turned_order a.z b.z x.z h.z }

pub box_to-inside : (x : Vec3) (box : SpanEnds) (p : Vec3) → IsInside box p → IsInside (box_to x box) (difference x p)
box_to-inside x box p h = record {
  x = turned box.lo.x box.hi.x p.x x.x h.x;
  y = turned box.lo.y box.hi.y p.y x.y h.y;
  z = turned box.lo.z box.hi.z p.z x.z h.z;
}
