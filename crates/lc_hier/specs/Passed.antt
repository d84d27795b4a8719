-- Triangles that a segment passes. Clauses of private functions alone speak of them.
use Rattle.std.specs.Prelude.{◌≡◌, ℕ, ◌<◌, true, unsigned_abs}
use Rattle.lc_num.specs.declared.vectors.Vec3.{Vec3}
use Rattle.lc_geom.specs.declared.triangle.Tri.{Tri}
use Rattle.lc_geom.specs.Crossing.{crosses, side}
use Rattle.lc_geom.specs.Hits.{depth_between}

-- the segment from p to q does not cross the triangle, or does so at a greater depth than `most`
abbrev pub IsPassed : Vec3 → Vec3 → ℕ → Tri → Type 0
IsPassed p q most t = crosses p q t ≡ true → most < depth_between (unsigned_abs (side t p)) (unsigned_abs (side t q))
