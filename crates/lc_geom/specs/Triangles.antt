-- Triangles, and what lies to their sides.
use Rattle.std.specs.Prelude.{Bool, ◌==◌}
use Rattle.lc_num.specs.Vectors.{Within, difference, cross, square}
use Rattle.lc_num.specs.Cosines.{scaled}
use Rattle.lc_num.specs.declared.vectors.Vec3.{Vec3}
use Rattle.lc_geom.specs.declared.triangle.Tri.{Tri}

-- each corner is at most 5000.0000 in each component
pub record IsTri (t : Tri) : Type 0 where
  pub a : Within 50_000_000 t.a
  pub b : Within 50_000_000 t.b
  pub c : Within 50_000_000 t.c

-- the cross product of the sides from the first corner
abbrev pub unscaled_normal : Tri → Vec3
unscaled_normal t = cross (difference t.b t.a) (difference t.c t.a)

abbrev pub normal_of : Tri → Vec3
normal_of t = scaled (unscaled_normal t) 16384

-- the corners lie on one line, so that there is no normal
abbrev pub is_flat : Tri → Bool
is_flat t = square (unscaled_normal t) == 0
