-- The normal where a ray hits a surface.
use Rattle.std.specs.Prelude.{ℕ, ◌*◌, ◌/◌, ◌^◌, ◌==◌, ℤ, pos, ◌+ℤ◌, ◌*ℤ◌, int_lt, if◌then◌else◌, Option, Some, None}
use Rattle.lc_num.specs.Vectors.{difference, dot, square, zero_vector}
use Rattle.lc_num.specs.Cosines.{scaled}
use Rattle.lc_num.specs.declared.vectors.Vec3.{Vec3}
use Rattle.lc_geom.specs.Crossing.{side}
use Rattle.lc_geom.specs.Hits.{moved}
use Rattle.lc_geom.specs.Triangles.{normal_of}
use Rattle.lc_geom.specs.Weights.{sum_of, weights_of}
use Rattle.lc_geom.specs.declared.triangle.Tri.{Tri}
use Rattle.lc_geom.specs.declared.weights.Weights.{Weights}
use Rattle.lc_obj.specs.declared.mesh.Triple.{Triple}
use Rattle.lc_view.specs.declared.ray.Ray.{Ray}
use Rattle.lc_sample.specs.declared.surface.Surface.{Surface}

-- the normal of the triangle on the side of a place
abbrev pub facing : Vec3 → Tri → Vec3
facing e t = if int_lt (side t e) (pos 0) then difference zero_vector (normal_of t) else normal_of t

-- ---- between the normals of the corners

-- a weight as a part of all, in 1/2^20, rounded down
abbrev pub part_of : ℕ → ℕ → ℕ
part_of weight all = 2 ^ 20 * weight / all

abbrev pub mixed : ℤ → ℤ → ℤ → ℤ → ℤ → ℤ → ℤ
mixed u v w a b c = u *ℤ a +ℤ v *ℤ b +ℤ w *ℤ c

abbrev pub mixed_by : Weights → ℤ → ℤ → ℤ → ℤ
mixed_by w a b c =
    mixed (pos (part_of w.a (sum_of w))) (pos (part_of w.b (sum_of w))) (pos (part_of w.c (sum_of w))) a b c

-- the sum of the corners' normals, each times the part that its corner has
abbrev pub blended : Weights → Triple → Vec3
blended w n =
    record { x = mixed_by w n.a.x n.b.x n.c.x; y = mixed_by w n.a.y n.b.y n.c.y; z = mixed_by w n.a.z n.b.z n.c.z }

-- a normal turned to the side of the surface from which it is seen, whose own normal stands in where there is none
abbrev pub turned : Vec3 → Vec3 → Vec3
turned seen n = if square n == 0 then seen else (if int_lt (dot n seen) (pos 0) then difference zero_vector n else n)

-- ---- at a hit

unfoldable pub smooth : Ray → Tri → Vec3 → Triple → Vec3
smooth ray t seen normals = turned seen (scaled (blended (weights_of ray.e (moved ray.e ray.d) t) normals) 16384)

-- the triangle's own normal on the side of the eye, or that between the corners' normals where each corner has one
abbrev pub normal_by : Ray → Tri → Vec3 → Option Triple → Vec3
normal_by ray t seen None = seen
normal_by ray t seen (Some normals) = smooth ray t seen normals

abbrev pub normal_at : Ray → Surface → Vec3
normal_at ray surface = normal_by ray surface.tri (facing ray.e surface.tri) surface.normals
