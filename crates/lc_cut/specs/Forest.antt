-- The trees of a forest: their lights, what holds of them, and what they have at a spot.
use Rattle.std.specs.Prelude.{ℕ, ◌+◌, ◌≤◌, List, length, refl}
use Rattle.std.specs.Coded.{Coded, code_by, coded×}
use Rattle.lc_num.specs.declared.channels.Rgb.{Rgb}
use Rattle.lc_num.specs.declared.rules.Rule.{Rule}
use Rattle.lc_geom.specs.declared.triangle.Tri.{Tri}
use Rattle.lc_light.specs.Lights.{IsOmni, IsOriented, IsSun}
use Rattle.lc_light.specs.declared.lights.Lights.{Lights}
use Rattle.lc_light.specs.declared.lights.Omni.{Omni}
use Rattle.lc_light.specs.declared.lights.Oriented.{Oriented}
use Rattle.lc_light.specs.declared.lights.Sun.{Sun}
use Rattle.lc_light.specs.contracts.lights.Omni as omnis
use Rattle.lc_light.specs.contracts.lights.Oriented as orienteds
use Rattle.lc_light.specs.contracts.lights.Sun as suns
use Rattle.lc_terms.specs.declared.spot.Spot.{Spot}
use Rattle.lc_words.specs.Words.{stream_word}
use Rattle.lc_bound.specs.Omni.{omni_meaning}
use Rattle.lc_bound.specs.Oriented.{oriented_meaning}
use Rattle.lc_bound.specs.Sun.{sun_meaning}
use Rattle.lc_tree.specs.Build.{tree_of}
use Rattle.lc_tree.specs.Node.{Kept, coded_kept}
use Rattle.lc_tree.specs.Rows.{IsTreeIf}
use Rattle.lc_rated.specs.LitTrees.{Trees}
use Rattle.lc_rated.specs.declared.kind.LightKind.{LightKind}
use Rattle.lc_rated.specs.declared.kind.LightKind.TheVariants as kind
use Rattle.lc_cut.specs.Lit.{lit_root, IsFactor}

-- the lights and the roots of three trees, one of each kind of light
pub record ForestParts : Type 0 where
  pub omni : Kept Omni
  pub oriented : Kept Oriented
  pub sun : Kept Sun

-- how the logic stores them
abbrev pub coded_parts : Coded ForestParts
coded_parts =
    code_by (Kept Omni × (Kept Oriented × Kept Sun))
    (coded× (coded_kept omnis.the_row.coded)
    (coded× (coded_kept orienteds.the_row.coded) (coded_kept suns.the_row.coded)))
    (λ f. (f.omni, (f.oriented, f.sun))) (λ p. record { omni = p.0; oriented = p.1.0; sun = p.1.1 }) (λ _. refl)

-- the trees of lists of lights by halving, with the words of streams 0, 1 and 2
abbrev pub forest_of : ℕ → Lights → ForestParts
forest_of seed lights = record {
  omni = record { lights = lights.omni; root = tree_of omni_meaning (stream_word seed 0) lights.omni };
  oriented = record { lights = lights.oriented; root = tree_of oriented_meaning (stream_word seed 1) lights.oriented };
  sun = record { lights = lights.sun; root = tree_of sun_meaning (stream_word seed 2) lights.sun };
}

-- the lights of the three trees
abbrev pub lights_of : ForestParts → Lights
lights_of forest = record { omni = forest.omni.lights; oriented = forest.oriented.lights; sun = forest.sun.lights }

-- how many lights of all kinds there are
abbrev pub light_count : Lights → ℕ
light_count lights = length lights.omni + length lights.oriented + length lights.sun

-- trees over valid lights, whatever their shapes, with at most 65,536 lights in all
pub record IsForest (forest : ForestParts) : Type 0 where
  pub omni : IsTreeIf IsOmni forest.omni
  pub oriented : IsTreeIf IsOriented forest.oriented
  pub sun : IsTreeIf IsSun forest.sun
  pub few : light_count (lights_of forest) ≤ 65536

-- the lit trees of a forest at a spot among triangles, with the bounds of a rule
abbrev pub trees_of : List Tri → Spot → Rule → ForestParts → Trees
trees_of ts spot r forest = record {
  omni = lit_root omni_meaning ts spot r forest.omni.root;
  oriented = lit_root oriented_meaning ts spot r forest.oriented.root;
  sun = lit_root sun_meaning ts spot r forest.sun.root;
}

-- what is kept of a node of a forest: its representative's factor
abbrev pub keeps_of : List Tri → Spot → ForestParts → LightKind → ℕ → Rgb → Type 0
keeps_of ts spot forest kind.Omni = IsFactor omni_meaning ts spot forest.omni.root
keeps_of ts spot forest kind.Oriented = IsFactor oriented_meaning ts spot forest.oriented.root
keeps_of ts spot forest kind.Sun = IsFactor sun_meaning ts spot forest.sun.root
