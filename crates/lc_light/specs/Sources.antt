-- Sources of light, as the lines of a light file name them, and the lights that they give.
use Rattle.std.specs.Prelude.{ℕ, List, [], ◌∷◌, flat_map}
use Rattle.lc_light.specs.Areas.{IsArea, numbered, samples_from}
use Rattle.lc_light.specs.Lights.{IsOmni, IsSun}
use Rattle.lc_light.specs.declared.area.Area.{Area}
use Rattle.lc_light.specs.declared.lights.Omni.{Omni}
use Rattle.lc_light.specs.declared.lights.Sun.{Sun}
use Rattle.lc_light.specs.declared.lights.Lights.{Lights}
use Rattle.lc_light.specs.declared.source.Source.{Source}
use Rattle.lc_light.specs.declared.source.Source.TheVariants as source

-- a source within its ranges
abbrev pub IsSource : Source → Type 0
IsSource (source.Point omni) = IsOmni omni
IsSource (source.Sun sun) = IsSun sun
IsSource (source.Area area) = IsArea area

-- how many lights a source gives
abbrev pub count : Source → ℕ
count (source.Point omni) = 1
count (source.Sun sun) = 1
count (source.Area area) = area.count

abbrev pub points : Source → List Omni
points (source.Point omni) = omni ∷ []
points (source.Sun sun) = []
points (source.Area area) = []

abbrev pub suns : Source → List Sun
suns (source.Point omni) = []
suns (source.Sun sun) = sun ∷ []
suns (source.Area area) = []

abbrev pub areas : Source → List Area
areas (source.Point omni) = []
areas (source.Sun sun) = []
areas (source.Area area) = area ∷ []

-- the samples of an area light, by their numbers
abbrev pub samples : Source → List (Area × ℕ)
samples (source.Point omni) = []
samples (source.Sun sun) = []
samples (source.Area area) = numbered area

-- the lights of sources. The samples of all area lights take the words one after the other
unfoldable pub lights_of : (ℕ → ℕ) → List Source → Lights
lights_of word sources = record {
  omni = flat_map points sources;
  oriented = samples_from word 0 (flat_map samples sources);
  sun = flat_map suns sources;
}
