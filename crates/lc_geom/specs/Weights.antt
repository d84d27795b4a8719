-- How much each corner of a triangle counts where a segment crosses it.
use Rattle.std.specs.Prelude.{ℕ, ◌+◌, unsigned_abs}
use Rattle.lc_num.specs.declared.vectors.Vec3.{Vec3}
use Rattle.lc_geom.specs.declared.triangle.Tri.{Tri}
use Rattle.lc_geom.specs.declared.weights.Weights.{Weights}
use Rattle.lc_geom.specs.Crossing.{volume}

-- by the volume between the segment and the side opposite to the corner: the point of crossing is the mean of the
-- corners by these
abbrev pub weights_of : Vec3 → Vec3 → Tri → Weights
weights_of p q t = record {
  a = unsigned_abs (volume p q t.b t.c);
  b = unsigned_abs (volume p q t.c t.a);
  c = unsigned_abs (volume p q t.a t.b);
}

abbrev pub sum_of : Weights → ℕ
sum_of w = w.a + w.b + w.c
