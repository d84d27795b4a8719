-- What is added up for each query.
use Rattle.std.specs.Prelude.{ℕ, List, Option, Some, None, ◌+◌, if◌then◌else◌}
use Rattle.lc_geom.specs.Hits.{blocked, nearest}
use Rattle.lc_geom.specs.declared.hit.Hit.{Hit}
use Rattle.lc_geom.specs.declared.triangle.Tri.{Tri}
use Rattle.bench_hier.specs.declared.inputs.Ray.{Ray}
use Rattle.bench_hier.specs.declared.inputs.Segment.{Segment}

-- 1 for a segment that a triangle of the list blocks
abbrev pub one_if_blocked : List Tri → Segment → ℕ
one_if_blocked list s = if blocked s.p s.q list then 1 else 0

abbrev hit_sum : Option Hit → ℕ
hit_sum None = 0
hit_sum (Some hit) = hit.depth + hit.number

-- the depth and the number of a ray's first hit, added
abbrev pub first_hit_sum : List Tri → Ray → ℕ
first_hit_sum list r = hit_sum (nearest r.e r.d list)
