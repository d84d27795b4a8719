-- Scenes: surfaces, and the trees of the lights.
use Rattle.std.specs.Prelude.{ℕ, ◌≤◌, List, All, length, map, refl}
use Rattle.std.specs.Coded.{Coded, code_by, coded×, coded_list}
use Rattle.lc_geom.specs.declared.triangle.Tri.{Tri}
use Rattle.lc_obj.specs.declared.mesh.Mesh.{Mesh}
use Rattle.lc_mtl.specs.declared.material.Material.{Material}
use Rattle.lc_light.specs.declared.lights.Lights.{Lights}
use Rattle.lc_cut.specs.Forest.{ForestParts, IsForest, forest_of}
use Rattle.lc_cut.specs.contracts.forest.Forest as forests
use Rattle.lc_sample.specs.declared.surface.Surface.{Surface}
use Rattle.lc_sample.specs.contracts.surface.Surface as surfaces
use Rattle.lc_sample.specs.Surfaces.{IsSurface, surface_of}

-- the surfaces by the numbers of their triangles, and the trees of the lights
pub record SceneParts : Type 0 where
  pub surfaces : List Surface
  pub forest : ForestParts

-- how the logic stores them
abbrev pub coded_parts : Coded SceneParts
coded_parts =
    code_by (List Surface × ForestParts) (coded× (coded_list surfaces.the_row.coded) forests.the_row.coded)
    (λ s. (s.surfaces, s.forest)) (λ p. record { surfaces = p.0; forest = p.1 }) (λ _. refl)

pub record IsScene (scene : SceneParts) : Type 0 where
  pub surfaces : All IsSurface scene.surfaces
  pub few : length scene.surfaces ≤ 1_000_000
  pub forest : IsForest scene.forest

-- the triangles by their numbers
abbrev pub triangles_of : SceneParts → List Tri
triangles_of scene = map (λ s. s.tri) scene.surfaces

-- the scene of a mesh, of the materials of its libraries, and of lights, whose trees take the words of a seed
unfoldable pub scene_of : Mesh → List Material → Lights → ℕ → SceneParts
scene_of mesh items lights seed =
    record { surfaces = map (surface_of mesh.names items) mesh.faces; forest = forest_of seed lights }
