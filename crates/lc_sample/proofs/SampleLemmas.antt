-- The spots that rays find are valid, and what the sample there says of the sum over all lights.
use Rattle.std.proofs.Common.{◌≡◌, ℕ, ◌-◌, ◌*◌, ◌^◌, ◌≤◌, ◌⊎◌, inr, arith, Bool, true, false, Option, Some, None, List, ℤ, pos, refl, sym, ap, ◌∙◌, slice_get, unsigned_abs, ◌-ℤ◌}
use Rattle.std.specs.Prelude.{IfSome, int_lt, ◌==◌, if◌then◌else◌, option_map, option_and_then}
use Rattle.std.proofs.lemmas.Int.{ints}
use Rattle.lc_num.specs.Channels.{IsRgbWithin, black}
use Rattle.lc_num.specs.Vectors.{Within, difference, dot, square, zero_vector}
use Rattle.lc_num.specs.declared.channels.Rgb.{Rgb}
use Rattle.lc_num.specs.declared.rules.Rule.{Rule}
use Rattle.lc_num.specs.declared.vectors.Vec3.{Vec3}
use Rattle.lc_num.proofs.ScaledLemmas.{scaled_within}
use Rattle.lc_geom.specs.Crossing.{side}
use Rattle.lc_geom.specs.Hits.{nearest}
use Rattle.lc_geom.specs.Triangles.{unscaled_normal, normal_of}
use Rattle.lc_geom.specs.declared.hit.Hit.{Hit}
use Rattle.lc_geom.specs.declared.triangle.Tri.{Tri}
use Rattle.lc_obj.specs.declared.mesh.Triple.{Triple}
use Rattle.lc_terms.specs.Spot.{IsSpot}
use Rattle.lc_terms.specs.declared.spot.Spot.{Spot}
use Rattle.lc_rated.specs.Cuts.{IsFraction, IsNear, answer}
use Rattle.lc_rated.specs.declared.answer.Answer.{Answer}
use Rattle.lc_rated.proofs.CutSequence.{fraction, size_most, evals_most}
use Rattle.lc_cut.specs.Contribution.{plain}
use Rattle.lc_cut.specs.Forest.{lights_of, trees_of}
use Rattle.lc_cut.proofs.Whole.{answer_near, trees_limited}
use Rattle.lc_cut.proofs.SumLimits.{answer_est_within, answer_bound_within}
use Rattle.lc_view.specs.declared.ray.Ray.{Ray}
use Rattle.lc_sample.specs.declared.surface.Surface.{Surface}
use Rattle.lc_sample.specs.Surfaces.{IsSurface}
use Rattle.lc_sample.specs.Scenes.{SceneParts, IsScene, triangles_of}
use Rattle.lc_sample.specs.Normals.{facing, normal_at, normal_by, smooth, turned}
use Rattle.lc_sample.specs.Spots.{spot_on}
use Rattle.lc_sample.specs.Sampled.{spot_of, spot_seen, no_answer, answer_at, sample_of, light_at, light_of}
use Rattle.lc_sample.proofs.SurfaceLemmas.{surface_at}
use Rattle.lc_sample.proofs.SpotLemmas.{lifted_within}

-- ---- spots

negated : (m : ℕ) (z : ℤ) → unsigned_abs z ≤ m → unsigned_abs (pos 0 -ℤ z) ≤ m
negated m z h = omega (arith, ints)

negated_within : (v : Vec3) → Within 16384 v → Within 16384 (difference zero_vector v)
negated_within v h = record { x = negated 16384 v.x h.x; y = negated 16384 v.y h.y; z = negated 16384 v.z h.z }

pub facing_within : (e : Vec3) (t : Tri) → Within 16384 (facing e t)
facing_within e t = at (int_lt (side t e) (pos 0)) where
  n : Within 16384 (normal_of t)
  n = scaled_within (unscaled_normal t) 16384

  at : (b : Bool) → Within 16384 (if b then difference zero_vector (normal_of t) else normal_of t)
  at true = negated_within (normal_of t) n
  at false = n

turned_within : (seen n : Vec3) → Within 16384 seen → Within 16384 n → Within 16384 (turned seen n)
turned_within seen n hs hn = at (square n == 0) (int_lt (dot n seen) (pos 0)) where
  at : (none behind : Bool) → Within 16384 (if none then seen else (if behind then difference zero_vector n else n))
  at true behind = hs
  at false true = negated_within n hn
  at false false = hn

smooth_within : (ray : Ray) (t : Tri) (seen : Vec3) (normals : Triple) → Within 16384 seen → Within 16384 (smooth ray t seen normals)
unfolding smooth
smooth_within ray t seen normals h = turned_within seen _ h (scaled_within _ 16384)

normal_within : (ray : Ray) (surface : Surface) → Within 16384 (normal_at ray surface)
normal_within ray surface = at surface.normals where
  seen : Within 16384 (facing ray.e surface.tri)
  seen = facing_within ray.e surface.tri

  at : (o : Option Triple) → Within 16384 (normal_by ray surface.tri (facing ray.e surface.tri) o)
  at None = seen
  at (Some normals) = smooth_within ray surface.tri (facing ray.e surface.tri) normals seen

pub spot_valid : (ray : Ray) (depth : ℕ) (surface : Surface) → IsSurface surface → IsSpot (spot_on ray depth surface)
unfolding spot_on
spot_valid ray depth surface h = record {
  x = lifted_within _ (facing ray.e surface.tri);
  n = normal_within ray surface;
  r = scaled_within _ 16384;
  kd = h.reflectance.kd;
  ks = h.reflectance.ks;
  ns = h.reflectance.ns;
}

hit_valid : (scene : SceneParts) (ray : Ray) (hit : Hit) → IsScene scene → IfSome (spot_of scene ray hit) IsSpot
hit_valid scene ray hit h = at (slice_get scene.surfaces hit.number) refl where
  at : (o : Option Surface) → slice_get scene.surfaces hit.number ≡ o → IfSome (option_map (spot_on ray hit.depth) o) IsSpot
  at None e = tt
  at (Some s) e = spot_valid ray hit.depth s (surface_at scene.surfaces hit.number s h.surfaces e)

seen_valid : (scene : SceneParts) (ray : Ray) → IsScene scene → IfSome (spot_seen scene ray) IsSpot
unfolding spot_seen
seen_valid scene ray h = at (nearest ray.e ray.d (triangles_of scene)) where
  at : (o : Option Hit) → IfSome (option_and_then (spot_of scene ray) o) IsSpot
  at None = tt
  at (Some hit) = hit_valid scene ray hit h

-- ---- what the code finds

-- the nearest hit on the triangles that the scene keeps
pub nearest_kept : (parts scene : SceneParts) (ray : Ray) (ts : List Tri) (found o : Option Hit) → ts ≡ triangles_of parts → parts ≡ scene → found ≡ nearest ray.e ray.d ts → found ≡ o → nearest ray.e ray.d (triangles_of scene) ≡ o
nearest_kept parts scene ray ts found o kept same is at = sym (ap (nearest ray.e ray.d) (kept ∙ ap triangles_of same)) ∙ sym is ∙ at

pub nothing_seen : (scene : SceneParts) (ray : Ray) → nearest ray.e ray.d (triangles_of scene) ≡ None → None ≡ spot_seen scene ray
unfolding spot_seen
nothing_seen scene ray h = rw h refl

pub hit_seen : (scene : SceneParts) (ray : Ray) (hit : Hit) (spot : Spot) → nearest ray.e ray.d (triangles_of scene) ≡ Some hit → spot_of scene ray hit ≡ Some spot → Some spot ≡ spot_seen scene ray
unfolding spot_seen
hit_seen scene ray hit spot h k = rw h (sym k)

pub sample_none : (size permille : ℕ) (r : Rule) (scene : SceneParts) (ray : Ray) (a : Answer) → spot_seen scene ray ≡ None → a ≡ no_answer → a ≡ sample_of size permille r scene ray
unfolding sample_of
sample_none size permille r scene ray a h e = rw h e

pub sample_some : (size permille : ℕ) (r : Rule) (parts scene : SceneParts) (ray : Ray) (spot : Spot) (ts : List Tri) (a : Answer) → ts ≡ triangles_of parts → parts ≡ scene → spot_seen scene ray ≡ Some spot → a ≡ answer size permille (trees_of ts spot r parts.forest) → a ≡ sample_of size permille r scene ray
unfolding sample_of
sample_some size permille r parts scene ray spot ts a kept same h e =
    rw h
    (e
    ∙ ap (λ (us : List Tri). answer size permille (trees_of us spot r parts.forest)) kept
    ∙ ap (λ (s : SceneParts). answer size permille (trees_of (triangles_of s) spot r s.forest)) same)

pub light_none : (scene : SceneParts) (ray : Ray) → spot_seen scene ray ≡ None → black ≡ light_of scene ray
unfolding light_of
light_none scene ray h = rw h refl

pub light_some : (parts scene : SceneParts) (ray : Ray) (spot : Spot) (ts : List Tri) (light : Rgb) → ts ≡ triangles_of parts → parts ≡ scene → spot_seen scene ray ≡ Some spot → light ≡ plain ts spot (lights_of parts.forest) → light ≡ light_of scene ray
unfolding light_of
light_some parts scene ray spot ts light kept same h e =
    rw h
    (e
    ∙ ap (λ (us : List Tri). plain us spot (lights_of parts.forest)) kept
    ∙ ap (λ (s : SceneParts). plain (triangles_of s) spot (lights_of s.forest)) same)

-- ---- what it says

near_at : (size permille : ℕ) (r : Rule) (scene : SceneParts) (o : Option Spot) → IsScene scene → IfSome o IsSpot → IsNear (light_at scene o) (answer_at size permille r scene o)
near_at size permille r scene None h hs = record { red = omega arith; green = omega arith; blue = omega arith }
near_at size permille r scene (Some spot) h hs = answer_near (triangles_of scene) spot hs r scene.forest h.forest size permille

pub sample_near : (size permille : ℕ) (r : Rule) (scene : SceneParts) (ray : Ray) → IsScene scene → IsNear (light_of scene ray) (sample_of size permille r scene ray)
unfolding light_of sample_of
sample_near size permille r scene ray h = near_at size permille r scene (spot_seen scene ray) h (seen_valid scene ray h)

fraction_at : (size permille : ℕ) (r : Rule) (scene : SceneParts) (o : Option Spot) → 3 ≤ size → ((answer_at size permille r scene o).size ≡ size) ⊎ IsFraction permille (answer_at size permille r scene o)
fraction_at size permille r scene None least = inr (record { red = omega arith; green = omega arith; blue = omega arith })
fraction_at size permille r scene (Some spot) least = fraction size permille (trees_of (triangles_of scene) spot r scene.forest) least

pub sample_fraction : (size permille : ℕ) (r : Rule) (scene : SceneParts) (ray : Ray) → 3 ≤ size → ((sample_of size permille r scene ray).size ≡ size) ⊎ IsFraction permille (sample_of size permille r scene ray)
unfolding sample_of
sample_fraction size permille r scene ray = fraction_at size permille r scene (spot_seen scene ray)

size_at : (size permille : ℕ) (r : Rule) (scene : SceneParts) (o : Option Spot) → 3 ≤ size → (answer_at size permille r scene o).size ≤ size
size_at size permille r scene None least = omega arith
size_at size permille r scene (Some spot) least = size_most size permille (trees_of (triangles_of scene) spot r scene.forest) least

pub sample_size : (size permille : ℕ) (r : Rule) (scene : SceneParts) (ray : Ray) → 3 ≤ size → (sample_of size permille r scene ray).size ≤ size
unfolding sample_of
sample_size size permille r scene ray = size_at size permille r scene (spot_seen scene ray)

evals_at : (size permille : ℕ) (r : Rule) (scene : SceneParts) (o : Option Spot) → 3 ≤ size → (answer_at size permille r scene o).evals ≤ 2 * size
evals_at size permille r scene None least = omega arith
evals_at size permille r scene (Some spot) least = evals_most size permille (trees_of (triangles_of scene) spot r scene.forest) least

pub sample_evals : (size permille : ℕ) (r : Rule) (scene : SceneParts) (ray : Ray) → 3 ≤ size → (sample_of size permille r scene ray).evals ≤ 2 * size
unfolding sample_of
sample_evals size permille r scene ray = evals_at size permille r scene (spot_seen scene ray)

each_at : (size permille : ℕ) (r : Rule) (scene : SceneParts) (o : Option Spot) → (answer_at size permille r scene o).evals ≡ (answer_at size permille r scene o).size
each_at size permille r scene None = refl
each_at size permille r scene (Some spot) = refl

pub sample_each : (size permille : ℕ) (r : Rule) (scene : SceneParts) (ray : Ray) → (sample_of size permille r scene ray).evals ≡ (sample_of size permille r scene ray).size
unfolding sample_of
sample_each size permille r scene ray = each_at size permille r scene (spot_seen scene ray)

est_at : (size permille : ℕ) (r : Rule) (scene : SceneParts) (o : Option Spot) → IsScene scene → IfSome o IsSpot → IsRgbWithin (2 ^ 117 - 1) (answer_at size permille r scene o).est
est_at size permille r scene None h hs = record { r = omega arith; g = omega arith; b = omega arith }
est_at size permille r scene (Some spot) h hs =
    let ts = triangles_of scene in answer_est_within size permille (trees_of ts spot r scene.forest) (trees_limited ts spot hs r scene.forest h.forest)

pub sample_est : (size permille : ℕ) (r : Rule) (scene : SceneParts) (ray : Ray) → IsScene scene → IsRgbWithin (2 ^ 117 - 1) (sample_of size permille r scene ray).est
unfolding sample_of
sample_est size permille r scene ray h = est_at size permille r scene (spot_seen scene ray) h (seen_valid scene ray h)

bound_at : (size permille : ℕ) (r : Rule) (scene : SceneParts) (o : Option Spot) → IsScene scene → IfSome o IsSpot → IsRgbWithin (2 ^ 117 - 1) (answer_at size permille r scene o).bound
bound_at size permille r scene None h hs = record { r = omega arith; g = omega arith; b = omega arith }
bound_at size permille r scene (Some spot) h hs =
    let ts = triangles_of scene in answer_bound_within size permille (trees_of ts spot r scene.forest) (trees_limited ts spot hs r scene.forest h.forest)

pub sample_bound : (size permille : ℕ) (r : Rule) (scene : SceneParts) (ray : Ray) → IsScene scene → IsRgbWithin (2 ^ 117 - 1) (sample_of size permille r scene ray).bound
unfolding sample_of
sample_bound size permille r scene ray h = bound_at size permille r scene (spot_seen scene ray) h (seen_valid scene ray h)
