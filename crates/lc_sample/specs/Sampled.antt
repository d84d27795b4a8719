-- The light that a ray finds.
use Rattle.std.specs.Prelude.{ℕ, Option, Some, None, option_map, option_and_then, slice_get}
use Rattle.lc_num.specs.Channels.{black}
use Rattle.lc_num.specs.declared.channels.Rgb.{Rgb}
use Rattle.lc_num.specs.declared.rules.Rule.{Rule}
use Rattle.lc_geom.specs.Hits.{nearest}
use Rattle.lc_geom.specs.declared.hit.Hit.{Hit}
use Rattle.lc_terms.specs.declared.spot.Spot.{Spot}
use Rattle.lc_rated.specs.Cuts.{answer}
use Rattle.lc_rated.specs.declared.answer.Answer.{Answer}
use Rattle.lc_cut.specs.Contribution.{plain}
use Rattle.lc_cut.specs.Forest.{lights_of, trees_of}
use Rattle.lc_view.specs.declared.ray.Ray.{Ray}
use Rattle.lc_sample.specs.Scenes.{SceneParts, triangles_of}
use Rattle.lc_sample.specs.Spots.{spot_on}

-- the spot of a hit
abbrev pub spot_of : SceneParts → Ray → Hit → Option Spot
spot_of scene ray hit = option_map (spot_on ray hit.depth) (slice_get scene.surfaces hit.number)

-- the spot of the ray's nearest hit
unfoldable pub spot_seen : SceneParts → Ray → Option Spot
spot_seen scene ray = option_and_then (spot_of scene ray) (nearest ray.e ray.d (triangles_of scene))

-- ---- the answer of the chosen cut

abbrev pub no_answer : Answer
no_answer = record { size = 0; evals = 0; est = black; bound = black }

abbrev pub answer_at : ℕ → ℕ → Rule → SceneParts → Option Spot → Answer
answer_at size permille r scene None = no_answer
answer_at size permille r scene (Some spot) = answer size permille (trees_of (triangles_of scene) spot r scene.forest)

-- the answer for a greatest size and a permille under a rule at the spot that a ray finds, and zero where it hits
-- nothing
unfoldable pub sample_of : ℕ → ℕ → Rule → SceneParts → Ray → Answer
sample_of size permille r scene ray = answer_at size permille r scene (spot_seen scene ray)

-- ---- the sum over all lights

abbrev pub light_at : SceneParts → Option Spot → Rgb
light_at scene None = black
light_at scene (Some spot) = plain (triangles_of scene) spot (lights_of scene.forest)

-- the sum over all lights at the spot that a ray finds, each with its own visibility against every triangle
unfoldable pub light_of : SceneParts → Ray → Rgb
light_of scene ray = light_at scene (spot_seen scene ray)
