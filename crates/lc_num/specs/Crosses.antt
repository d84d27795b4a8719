-- How short the cross product of two vectors of boxes can be, and the bounds of cosines that this gives. As
-- `(a.a) * (b.b) = (a.b)^2 + (a x b).(a x b)`, a cosine is the smaller the longer the cross product is.
use Rattle.std.specs.Prelude.{ℕ, ◌+◌, ◌*◌, ◌&&◌, min, if◌then◌else◌, ℤ, pos, ◌-ℤ◌, ◌*ℤ◌, unsigned_abs}
use Rattle.std.specs.Int.{int_min}
use Rattle.std.specs.Int.RustNames.{int_le}
use Rattle.lc_num.specs.Cosines.{cosine_at_most}
use Rattle.lc_num.specs.Boxes.{SpanEnds, greatest_dot, greatest_product, greatest_dot_of_boxes, cos_top, emit_top}
use Rattle.lc_num.specs.declared.vectors.Vec3.{Vec3}

-- the least square of a number from `lo` to `hi`: 0 where 0 is one of them, and else that of the nearer end
unfoldable pub least_square : ℤ → ℤ → ℕ
least_square lo hi =
    if int_le lo (pos 0) && int_le (pos 0) hi
    then 0
    else min (unsigned_abs lo * unsigned_abs lo) (unsigned_abs hi * unsigned_abs hi)

-- the least of the four products of an end of the one interval and an end of the other
abbrev pub least_product : ℤ → ℤ → ℤ → ℤ → ℤ
least_product a_lo a_hi b_lo b_hi =
    int_min (int_min (a_lo *ℤ b_lo) (a_lo *ℤ b_hi)) (int_min (a_hi *ℤ b_lo) (a_hi *ℤ b_hi))

-- the least square of `a * d - b * c`, each of the four from its least to its greatest: the difference lies between
-- the least of the first product minus the greatest of the second, and the greatest of the first minus the least of
-- the second
abbrev pub least_component : (a_lo a_hi d_lo d_hi b_lo b_hi c_lo c_hi : ℤ) → ℕ
least_component a_lo a_hi d_lo d_hi b_lo b_hi c_lo c_hi =
    least_square
    (least_product a_lo a_hi d_lo d_hi -ℤ greatest_product b_lo b_hi c_lo c_hi)
    (greatest_product a_lo a_hi d_lo d_hi -ℤ least_product b_lo b_hi c_lo c_hi)

-- at most the squared length of the cross product of any vector of the one box with any of the other, axis by axis
unfoldable pub least_cross : SpanEnds → SpanEnds → ℕ
least_cross a b =
    least_component a.lo.y a.hi.y b.lo.z b.hi.z a.lo.z a.hi.z b.lo.y b.hi.y
    + least_component a.lo.z a.hi.z b.lo.x b.hi.x a.lo.x a.hi.x b.lo.z b.hi.z
    + least_component a.lo.x a.hi.x b.lo.y b.hi.y a.lo.y a.hi.y b.lo.x b.hi.x

-- the cosine in 1/65536 that a greatest dot product and a least squared cross product give: 0 where the dot product
-- is not positive, and else the greatest k with `k^2 * (along^2 + across) <= 2^32 * along^2`
abbrev pub cosine_beside : ℤ → ℕ → ℕ
cosine_beside along across = cosine_at_most along (unsigned_abs along * unsigned_abs along + across)

-- the lesser of `cos_top` and of the cosine that the least cross product gives
unfoldable pub cos_top2 : Vec3 → SpanEnds → ℕ → ℕ
cos_top2 n box least =
    min (cos_top n box least) (cosine_beside (greatest_dot n box) (least_cross (record { lo = n; hi = n }) box))

-- the lesser of `emit_top` and of the cosine that the least cross product gives
unfoldable pub emit_top2 : SpanEnds → ℕ → SpanEnds → ℕ → ℕ
emit_top2 normals least_n offsets least_d =
    min (emit_top normals least_n offsets least_d)
    (cosine_beside (greatest_dot_of_boxes normals offsets) (least_cross normals offsets))
