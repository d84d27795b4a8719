-- What is added up for each input.
use Rattle.std.specs.Prelude.{ℕ, List, Option, Some, None, if◌then◌else◌}
use Rattle.lc_geom.specs.Crossing.{crosses}
use Rattle.lc_geom.specs.Hits.{blocked, depth}
use Rattle.lc_geom.specs.declared.triangle.Tri.{Tri}
use Rattle.bench_geom.specs.declared.inputs.Ray.{Ray}
use Rattle.bench_geom.specs.declared.inputs.Segment.{Segment}

abbrev pub mark_if_blocked : Segment → ℕ
mark_if_blocked s = if crosses s.p s.q s.triangle then s.mark else 0

abbrev pub mark_if_covered : List Tri → Segment → ℕ
mark_if_covered room s = if blocked s.p s.q room then s.mark else 0

abbrev or_zero : Option ℕ → ℕ
or_zero None = 0
or_zero (Some depth) = depth

abbrev pub depth_sum : Ray → ℕ
depth_sum r = or_zero (depth r.e r.d r.triangle)
