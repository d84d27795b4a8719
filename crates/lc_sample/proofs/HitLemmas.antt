-- The hits of a ray on the triangles of a scene.
use Rattle.std.proofs.Common.{◌≡◌, ap, ◌∙◌, ◌^◌, ◌<◌, List, map, true, Option, Some, None}
use Rattle.std.specs.Prelude.{IsSomeAnd, option_map, slice_get}
use Rattle.std.proofs.lemmas.Option.{slice_get-map}
use Rattle.lc_geom.specs.Hits.{depth, moved, nearest}
use Rattle.lc_geom.specs.declared.hit.Hit.{Hit}
use Rattle.lc_geom.specs.declared.triangle.Tri.{Tri}
use Rattle.lc_geom.specs.Crossing.{crosses}
use Rattle.lc_geom.proofs.Depths.{depth_below, depth_crosses}
use Rattle.lc_geom.proofs.Nearest as laws
use Rattle.lc_view.specs.declared.ray.Ray.{Ray}
use Rattle.lc_sample.specs.declared.surface.Surface.{Surface}
use Rattle.lc_sample.specs.Spots.{IsHit}

pub nearest_is_hit : (ts : List Tri) (ray : Ray) (hit : Hit) → nearest ray.e ray.d ts ≡ Some hit → IsHit ts ray hit
nearest_is_hit ts ray hit h = laws.nearest_is_hit ray.e ray.d ts hit h

pub hit_small : (ts : List Tri) (ray : Ray) (hit : Hit) → IsHit ts ray hit → hit.depth < 2 ^ 30
hit_small ts ray hit h = at (slice_get ts hit.number) h where
  at : (o : Option Tri) → IsSomeAnd o (λ t. depth ray.e ray.d t ≡ Some hit.depth) → hit.depth < 2 ^ 30
  at None k = absurd k
  at (Some t) k = depth_below ray.e ray.d t hit.depth k

-- the triangle of a hit is crossed
pub hit_crosses : (surfaces : List Surface) (ray : Ray) (hit : Hit) (surface : Surface) → IsHit (map (λ (s : Surface). s.tri) surfaces) ray hit → slice_get surfaces hit.number ≡ Some surface → crosses ray.e (moved ray.e ray.d) surface.tri ≡ true
hit_crosses surfaces ray hit surface h is =
    let found : slice_get (map (λ (s : Surface). s.tri) surfaces) hit.number ≡ Some surface.tri = slice_get-map (λ (s : Surface). s.tri) surfaces hit.number ∙ ap (option_map (λ (s : Surface). s.tri)) is in
    (depth_crosses ray.e ray.d surface.tri hit.depth (rw found at h)).0
