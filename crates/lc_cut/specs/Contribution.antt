-- The light of lights at a spot among triangles: of each light its factor times its intensity, added over all lights.
use Rattle.std.specs.Prelude.{List, sum_by}
use Rattle.lc_num.specs.Channels.{plus, by_power}
use Rattle.lc_num.specs.declared.channels.Rgb.{Rgb}
use Rattle.lc_geom.specs.declared.triangle.Tri.{Tri}
use Rattle.lc_light.specs.declared.lights.Lights.{Lights}
use Rattle.lc_terms.specs.Kind.{Meaning, factor_of}
use Rattle.lc_terms.specs.declared.spot.Spot.{Spot}
use Rattle.lc_bound.specs.Omni.{omni_meaning}
use Rattle.lc_bound.specs.Oriented.{oriented_meaning}
use Rattle.lc_bound.specs.Sun.{sun_meaning}

module _ {L C : Type 0} where
  -- the factor times the intensity, with no further rounding; nothing where a triangle blocks the light
  abbrev pub contribution : Meaning L C → List Tri → Spot → L → Rgb
  contribution m ts spot light = by_power (factor_of m ts spot light) (m.power light)

  -- the sum over all lights of a kind
  abbrev pub plain_of : Meaning L C → List Tri → Spot → List L → Rgb
  plain_of m ts spot lights = record {
    r = sum_by (λ light. (contribution m ts spot light).r) lights;
    g = sum_by (λ light. (contribution m ts spot light).g) lights;
    b = sum_by (λ light. (contribution m ts spot light).b) lights;
  }

-- the sum over all lights of the three kinds, each with its own visibility against every triangle
abbrev pub plain : List Tri → Spot → Lights → Rgb
plain ts spot lights =
    plus (plus (plain_of omni_meaning ts spot lights.omni) (plain_of oriented_meaning ts spot lights.oriented))
    (plain_of sun_meaning ts spot lights.sun)
