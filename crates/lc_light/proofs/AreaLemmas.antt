-- Places on area lights, and shares of their intensities.
use Rattle.std.proofs.Common.{◌≡◌, ℕ, suc, ◌&&◌, ◌*◌, ◌/◌, ◌%◌, ◌^◌, ◌<◌, ◌≤◌, ◌⊎◌, inl, inr, true, refl, ap, ◌∙◌, arith, le_of_lt, zero, FitsSigned, to_z, of_z, ℤ, neg_ℤ, pos, negsuc, ◌+ℤ◌, ◌≤ℤ◌, unsigned_abs, nat_le}
use Rattle.std.specs.Int.{int_div_euclid}
use Rattle.std.proofs.Math.Nat.{div-le_of_le-mul, div-lt_iff_lt-mul, mul-le-mul_left}
use Rattle.std.specs.Int.{w64}
use Rattle.std.proofs.lemmas.Int.{ints, to_z-of_z}
use Rattle.std.proofs.lemmas.Bool.{leb-true, and_parts}
use Rattle.lc_num.specs.Vectors.{Within}
use Rattle.lc_num.specs.declared.vectors.Vec3.{Vec3}
use Rattle.lc_scan.specs.Coordinates.{is_place}
use Rattle.lc_light.specs.Areas.{IsArea, moved, has_places, part, coordinate_by, place_by}
use Rattle.lc_light.specs.declared.area.Area.{Area}

-- ---- corners

pub place_within : (v : Vec3) → is_place v ≡ true → Within 50_000_000 v
place_within v h =
    let b = and_parts (nat_le (unsigned_abs v.x) 50000000 && nat_le (unsigned_abs v.y) 50000000) (nat_le (unsigned_abs v.z) 50000000) h in
    let a = and_parts (nat_le (unsigned_abs v.x) 50000000) (nat_le (unsigned_abs v.y) 50000000) b.0 in
    record { x = leb-true _ _ a.0; y = leb-true _ _ a.1; z = leb-true _ _ b.1 }

-- the three corners besides the first
pub record Corners (area : Area) : Type 0 where
  pub along_end : Within 50_000_000 (moved area.corner area.along)
  pub across_end : Within 50_000_000 (moved area.corner area.across)
  pub opposite : Within 50_000_000 (moved (moved area.corner area.along) area.across)

pub corners_within : (area : Area) → has_places area ≡ true → Corners area
corners_within area h =
    let along = is_place (moved area.corner area.along) in
    let across = is_place (moved area.corner area.across) in
    let b = and_parts (along && across) (is_place (moved (moved area.corner area.along) area.across)) h in
    let a = and_parts along across b.0 in
    record { along_end = place_within _ a.0; across_end = place_within _ a.1; opposite = place_within _ b.1 }

-- what leads from a coordinate to a coordinate is at most as long as their range
step_short : (c a : ℤ) → unsigned_abs c ≤ 50_000_000 → unsigned_abs (c +ℤ a) ≤ 50_000_000 → unsigned_abs a ≤ 100_000_000
step_short c a h k = omega (arith, ints)

pub side_short : (corner side : Vec3) → Within 50_000_000 corner → Within 50_000_000 (moved corner side) → Within 100_000_000 side
side_short corner side h k = record { x = step_short corner.x side.x h.x k.x; y = step_short corner.y side.y h.y k.y; z = step_short corner.z side.z h.z k.z }

-- the cross product of two sides
pub cross_fits : (v : Vec3) → Within (2 * (100_000_000 * 100_000_000)) v → Within (2 ^ 60) v
cross_fits v h = record { x = omega (arith, h.x); y = omega (arith, h.y); z = omega (arith, h.z) }

-- ---- places

-- a part of a side ends between its ends
abbrev Between : ℤ → ℤ → Type 0
Between a z = ((pos 0 ≤ℤ z) × (z ≤ℤ a)) ⊎ ((a ≤ℤ z) × (z ≤ℤ pos 0))

rising : (n q : ℕ) → q ≤ n → Between (pos n) (pos q)
rising n q le = inl (omega (arith, ints), omega (arith, ints))

falling : (n m : ℕ) → m ≤ suc n * 65536 → Between (negsuc n) (int_div_euclid (neg_ℤ (pos m)) (pos 65536))
falling n zero le = inr (omega (arith, ints), omega (arith, ints))
falling n (suc k) le =
    let q : k / 65536 < suc n = (div-lt_iff_lt-mul {k = 65536} {x = k} {y = suc n} (omega arith)).1 (omega arith) in
    inr (omega (arith, ints), omega (arith, ints))

part_between : (a : ℤ) (w : ℕ) → w < 65536 → Between a (part a w)
part_between (pos n) w lt = rising n (n * w / 65536) (div-le_of_le-mul 65536 (let m = mul-le-mul_left n (le_of_lt lt) in omega arith))
part_between (negsuc n) w lt = falling n (suc n * w) (mul-le-mul_left (suc n) (le_of_lt lt))

between_short : (a z : ℤ) (m : ℕ) → Between a z → unsigned_abs a ≤ m → unsigned_abs z ≤ m
between_short a z m h le = omega (arith, ints)

pub part_short : (a : ℤ) (w : ℕ) → unsigned_abs a ≤ 100_000_000 → w < 65536 → unsigned_abs (part a w) ≤ 100_000_000
part_short a w h lt = between_short a (part a w) 100_000_000 (part_between a w lt) h

between_corners : (c a b x y : ℤ) → Between a x → Between b y → unsigned_abs c ≤ 50_000_000 → unsigned_abs (c +ℤ a) ≤ 50_000_000 → unsigned_abs (c +ℤ b) ≤ 50_000_000 → unsigned_abs (c +ℤ a +ℤ b) ≤ 50_000_000 → unsigned_abs (c +ℤ x +ℤ y) ≤ 50_000_000
between_corners c a b x y p q hc ha hb hab = omega (arith, ints)

pub lower_bits : (word : ℕ) → word % 65536 < 65536
lower_bits word = omega arith

pub upper_bits : (word : ℕ) → word < 2 ^ 32 → word / 65536 < 65536
upper_bits word lt = omega arith

coordinate_within : (word : ℕ) (c a b : ℤ) → word < 2 ^ 32 → unsigned_abs c ≤ 50_000_000 → unsigned_abs (c +ℤ a) ≤ 50_000_000 → unsigned_abs (c +ℤ b) ≤ 50_000_000 → unsigned_abs (c +ℤ a +ℤ b) ≤ 50_000_000 → unsigned_abs (coordinate_by word c a b) ≤ 50_000_000
coordinate_within word c a b lt hc ha hb hab =
    between_corners c a b (part a (word % 65536)) (part b (word / 65536)) (part_between a (word % 65536) (lower_bits word)) (part_between b (word / 65536) (upper_bits word lt)) hc ha hb hab

pub place_by_within : (word : ℕ) (area : Area) → word < 2 ^ 32 → IsArea area → Within 50_000_000 (place_by word area)
place_by_within word area lt h = record {
  x = coordinate_within word area.corner.x area.along.x area.across.x lt h.corner.x h.along_end.x h.across_end.x h.opposite.x;
  y = coordinate_within word area.corner.y area.along.y area.across.y lt h.corner.y h.along_end.y h.across_end.y h.opposite.y;
  z = coordinate_within word area.corner.z area.along.z area.across.z lt h.corner.z h.along_end.z h.across_end.z h.opposite.z;
}

-- ---- what the code of a place reads

abbrev read : ℤ → ℤ
read z = to_z w64 (of_z w64 z)

pub read_part : (side x : ℤ) (w : ℕ) → FitsSigned w64 side → x ≡ part (read side) w → x ≡ part side w
read_part side x w fits e = e ∙ ap (λ (z : ℤ). part z w) (to_z-of_z w64 side fits)

pub read_coordinate : (word : ℕ) (x c a b : ℤ) → FitsSigned w64 x → FitsSigned w64 c → FitsSigned w64 a → FitsSigned w64 b → x ≡ coordinate_by word (read c) (read a) (read b) → read x ≡ coordinate_by word c a b
read_coordinate word x c a b hx hc ha hb e = to_z-of_z w64 x hx ∙ e ∙ rw (to_z-of_z w64 c hc, to_z-of_z w64 a ha, to_z-of_z w64 b hb) refl

pub same_vector : (x y z p q r : ℤ) → x ≡ p → y ≡ q → z ≡ r → ◌≡◌ {A = Vec3} (record { x = x; y = y; z = z }) (record { x = p; y = q; z = r })
same_vector x y z p q r e f g = cc
