-- When a triangle blocks a segment.
use Rattle.std.specs.Prelude.{Bool, ◌&&◌, ◌||◌, ℤ, pos, int_lt, int_le}
use Rattle.lc_num.specs.Vectors.{difference, dot, cross}
use Rattle.lc_num.specs.declared.vectors.Vec3.{Vec3}
use Rattle.lc_geom.specs.declared.triangle.Tri.{Tri}
use Rattle.lc_geom.specs.Triangles.{unscaled_normal}

-- on which side of the triangle's plane p lies, and how far from it: 0 in the plane, positive where the normal points
unfoldable pub side : Tri → Vec3 → ℤ
side t p = dot (unscaled_normal t) (difference p t.a)

-- six times the volume between the segment from p to q and that from u to v; its sign tells on which side of the
-- other each passes
unfoldable pub volume : Vec3 → Vec3 → Vec3 → Vec3 → ℤ
volume p q u v = dot (difference q p) (cross (difference u p) (difference v p))

abbrev pub are_opposite : ℤ → ℤ → Bool
are_opposite s r = (int_lt s (pos 0) && int_lt (pos 0) r) || (int_lt (pos 0) s && int_lt r (pos 0))

abbrev pub have_one_sign : ℤ → ℤ → ℤ → Bool
have_one_sign u v w =
    (int_le (pos 0) u && (int_le (pos 0) v && int_le (pos 0) w)) ||
    (int_le u (pos 0) && (int_le v (pos 0) && int_le w (pos 0)))

-- the segment's ends lie strictly on both sides of the plane, and it passes all sides of the triangle on one side, or
-- meets them
unfoldable pub crosses : Vec3 → Vec3 → Tri → Bool
crosses p q t =
    are_opposite (side t p) (side t q) && have_one_sign (volume p q t.a t.b) (volume p q t.b t.c) (volume p q t.c t.a)
