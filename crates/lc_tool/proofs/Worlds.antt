-- The world that files or made texts tell is within its ranges.
use Rattle.std.proofs.Common.{◌≡◌, codes, ℕ, List, [], ◌∷◌, length, map, refl, subst, Option, Some, None, Ok, arith}
use Rattle.std.proofs.lemmas.List.Elements.{All-nil}
use Rattle.lc_num.specs.Faults.{Fault}
use Rattle.lc_desk.specs.Desk.{Files}
use Rattle.lc_obj.specs.ObjFile as obj
use Rattle.lc_obj.specs.Meshes.{IsMesh}
use Rattle.lc_obj.specs.declared.mesh.Mesh.{Mesh}
use Rattle.lc_obj.proofs.ValidMeshes.{mesh_valid}
use Rattle.lc_mtl.specs.MtlFile as mtl
use Rattle.lc_mtl.specs.Materials.{AreMaterials, IsMaterial}
use Rattle.lc_mtl.specs.declared.material.Material.{Material}
use Rattle.lc_mtl.proofs.ValidMaterials.{materials_valid}
use Rattle.lc_light.specs.LightFile as light
use Rattle.lc_light.specs.Lights.{AreLights}
use Rattle.lc_light.specs.declared.lights.Lights.{Lights}
use Rattle.lc_light.proofs.ValidLights.{lights_valid}
use Rattle.lc_cut.specs.Forest.{forest_of}
use Rattle.lc_job.specs.JobFile.{fault_in, first_stop, job_in}
use Rattle.lc_job.specs.Jobs.{IsJob}
use Rattle.lc_job.specs.declared.job.Job.{Job}
use Rattle.lc_job.specs.declared.stop.JobStop.{JobStop}
use Rattle.lc_job.specs.declared.stop.JobStop.TheVariants as job_stop
use Rattle.lc_job.proofs.StopLemmas.{line_first}
use Rattle.lc_job.proofs.ValidJobs.{job_valid}
use Rattle.lc_sample.specs.Scenes.{IsScene, scene_of}
use Rattle.lc_sample.specs.Surfaces.{surface_of}
use Rattle.lc_sample.proofs.SurfaceLemmas.{scene_is, scene_valid}
use Rattle.lc_tool.specs.declared.status.Source.TheVariants as source
use Rattle.lc_tool.specs.declared.world.World.{World}
use Rattle.lc_tool.specs.Course.{at_once}
use Rattle.lc_tool.specs.Lines.{file_limit}
use Rattle.lc_make.specs.declared.made.Made.{Made}
use Rattle.lc_tool.specs.Outcome.{beside, built, furnished, job_of, job_text, libraries_of, library_of, library_text, lights_of, lights_text, lit, made_built, made_furnished, made_lit, made_world, mesh_of, mesh_text, text_of, unless_stopped, world_by, world_of}
use Rattle.lc_tool.proofs.Through.{went_through, ok_same, unless_gave, lights_given}

-- ---- the job

unless_job : (name : List ℕ) (o : Option JobStop) (job given : Job) → unless_stopped name o job ≡ Ok given → job ≡ given
unless_job name None job given e = ok_same job given e
unless_job name (Some job_stop.Memory) job given e = ok_same job given e
unless_job name (Some (job_stop.Fault line kind)) job given e = cc
unless_job name (Some (job_stop.Missing key)) job given e = cc

-- a faulty line is refused
no_fault : (name text : List ℕ) (job given : Job) → unless_stopped name (first_stop text) job ≡ Ok given → fault_in text ≡ None
no_fault name text job given e = go (fault_in text) refl where
  refused : (line kind : ℕ) → first_stop text ≡ Some (job_stop.Fault line kind) → ⊥
  refused line kind first = let other = subst (λ o. unless_stopped name o job ≡ Ok given) first e in cc

  go : (found : Option Fault) → fault_in text ≡ found → fault_in text ≡ None
  go None same = same
  go (Some fault) same = absurd (refused fault.line fault.kind (line_first text (job_stop.Fault fault.line fault.kind) same).0)

job_text_is : (name text : List ℕ) (job : Job) → (job_text name text).end ≡ Ok job → IsJob job
job_text_is name text job e = subst IsJob (unless_job name (first_stop text) (job_in text) job e) (job_valid text (no_fault name text (job_in text) job e))

job_is : (name : List ℕ) (files : Files) (job : Job) → (job_of name files).end ≡ Ok job → IsJob job
job_is name files job e =
    let w = went_through (text_of file_limit name files) (λ text. job_text name text) job e in
    job_text_is name w.value job w.went

-- ---- the scene

mesh_text_is : (name text : List ℕ) (mesh : Mesh) → (mesh_text name text).end ≡ Ok mesh → IsMesh mesh
mesh_text_is name text mesh e =
    let v = unless_gave source.Scene name (obj.fault_in text) (obj.mesh text) mesh e in
    subst IsMesh v.1 (mesh_valid text v.0)

mesh_is : (name : List ℕ) (files : Files) (mesh : Mesh) → (mesh_of name files).end ≡ Ok mesh → IsMesh mesh
mesh_is name files mesh e =
    let w = went_through (text_of file_limit name files) (λ text. mesh_text name text) mesh e in
    mesh_text_is name w.value mesh w.went

library_text_is : (before : List Material) (name text : List ℕ) (items : List Material) → AreMaterials before → (library_text before name text).end ≡ Ok items → AreMaterials items
library_text_is before name text items valid e =
    let v = unless_gave source.Library name (mtl.fault_in (length before) text) (mtl.materials before text) items e in
    subst AreMaterials v.1 (materials_valid before text valid v.0)

library_is : (before : List Material) (name : List ℕ) (files : Files) (items : List Material) → AreMaterials before → (library_of before name files).end ≡ Ok items → AreMaterials items
library_is before name files items valid e =
    let w = went_through (text_of file_limit name files) (λ text. library_text before name text) items e in
    library_text_is before name w.value items valid w.went

libraries_are : (names : List (List ℕ)) (before : List Material) (files : Files) (items : List Material) → AreMaterials before → (libraries_of names before files).end ≡ Ok items → AreMaterials items
unfolding libraries_of
libraries_are [] before files items valid e = subst AreMaterials (ok_same before items e) valid
libraries_are (name ∷ later) before files items valid e =
    let w = went_through (library_of before name files) (λ more. libraries_of later more files) items e in
    libraries_are later w.value files items (library_is before name files w.value valid w.stepped) w.went

lights_text_are : (name : List ℕ) (seed : ℕ) (text : List ℕ) (lights : Lights) → (lights_text name seed text).end ≡ Ok lights → AreLights lights
lights_text_are name seed text lights e =
    let v = unless_gave source.Lights name (light.fault_in text) (light.lights text seed) lights e in
    subst AreLights v.1 (lights_valid text seed v.0)

lights_are : (name : List ℕ) (seed : ℕ) (files : Files) (lights : Lights) → (lights_of name seed files).end ≡ Ok lights → AreLights lights
lights_are name seed files lights e =
    let given = lights_given name seed files lights e in
    subst AreLights given.same (lights_valid given.text seed given.right)

none_are : AreMaterials []
none_are = record { each = All-nil IsMaterial; few = omega arith }

-- ---- the world

-- the scene of a mesh, of materials and of lights is valid
scene_of_is : (mesh : Mesh) (items : List Material) (lights : Lights) (seed : ℕ) → IsMesh mesh → AreMaterials items → AreLights lights → IsScene (scene_of mesh items lights seed)
scene_of_is mesh items lights seed hm hi hl =
    subst IsScene (scene_is mesh items lights seed (map (surface_of mesh.names items) mesh.faces) (forest_of seed lights) refl refl)
    (scene_valid mesh items lights seed (map (surface_of mesh.names items) mesh.faces) (forest_of seed lights) refl refl hm hi hl)

pub record IsWorld (world : World) : Type 0 where
  pub job : IsJob world.job
  pub scene : IsScene world.scene

lit_valid : (job : Job) (mesh : Mesh) (items : List Material) (lights : Lights) (world : World) → IsJob job → IsMesh mesh → AreMaterials items → AreLights lights → world_by job mesh items lights ≡ world → IsWorld world
lit_valid job mesh items lights world hj hm hi hl e = subst IsWorld e (record { job = hj; scene = scene_of_is mesh items lights job.seed hm hi hl })

lit_is : (job : Job) (mesh : Mesh) (items : List Material) (files : Files) (world : World) → IsJob job → IsMesh mesh → AreMaterials items → (lit job mesh items files).end ≡ Ok world → IsWorld world
lit_is job mesh items files world hj hm hi e =
    let w = went_through (lights_of job.lights job.seed files) (λ lights. at_once (Ok (world_by job mesh items lights))) world e in
    lit_valid job mesh items w.value world hj hm hi (lights_are job.lights job.seed files w.value w.stepped) (ok_same (world_by job mesh items w.value) world w.went)

furnished_is : (job : Job) (mesh : Mesh) (files : Files) (world : World) → IsJob job → IsMesh mesh → (furnished job mesh files).end ≡ Ok world → IsWorld world
furnished_is job mesh files world hj hm e =
    let names : List (List ℕ) = map (beside job.scene) mesh.libs in
    let w = went_through (libraries_of names [] files) (λ items. lit job mesh items files) world e in
    lit_is job mesh w.value files world hj hm (libraries_are names [] files w.value none_are w.stepped) w.went

built_is : (job : Job) (files : Files) (world : World) → IsJob job → (built job files).end ≡ Ok world → IsWorld world
built_is job files world hj e =
    let w = went_through (mesh_of job.scene files) (λ mesh. furnished job mesh files) world e in
    furnished_is job w.value files world hj (mesh_is job.scene files w.value w.stepped) w.went

pub world_is : (name : List ℕ) (files : Files) (world : World) → (world_of name files).end ≡ Ok world → IsWorld world
unfolding world_of
world_is name files world e =
    let w = went_through (job_of name files) (λ job. built job files) world e in
    built_is w.value files world (job_is name files w.value w.stepped) w.went

-- ---- the world of made texts

module _ (made : Made) where
  made_lit_is : (job : Job) (mesh : Mesh) (items : List Material) (world : World) → IsJob job → IsMesh mesh → AreMaterials items → (made_lit made job mesh items).end ≡ Ok world → IsWorld world
  made_lit_is job mesh items world hj hm hi e =
      let w = went_through (lights_text (codes "made.lights") job.seed made.lights) (λ lights. at_once (Ok (world_by job mesh items lights))) world e in
      lit_valid job mesh items w.value world hj hm hi (lights_text_are (codes "made.lights") job.seed made.lights w.value w.stepped) (ok_same (world_by job mesh items w.value) world w.went)

  made_furnished_is : (job : Job) (mesh : Mesh) (world : World) → IsJob job → IsMesh mesh → (made_furnished made job mesh).end ≡ Ok world → IsWorld world
  made_furnished_is job mesh world hj hm e =
      let w = went_through (library_text [] (codes "made.mtl") made.mtl) (λ items. made_lit made job mesh items) world e in
      made_lit_is job mesh w.value world hj hm (library_text_is [] (codes "made.mtl") made.mtl w.value none_are w.stepped) w.went

  made_built_is : (job : Job) (world : World) → IsJob job → (made_built made job).end ≡ Ok world → IsWorld world
  made_built_is job world hj e =
      let w = went_through (mesh_text (codes "made.obj") made.obj) (λ mesh. made_furnished made job mesh) world e in
      made_furnished_is job w.value world hj (mesh_text_is (codes "made.obj") made.obj w.value w.stepped) w.went

  pub made_world_is : (world : World) → (made_world made).end ≡ Ok world → IsWorld world
  unfolding made_world
  made_world_is world e =
      let w = went_through (job_text (codes "made.txt") made.job) (λ job. made_built made job) world e in
      made_built_is w.value world (job_text_is (codes "made.txt") made.job w.value w.stepped) w.went
