use Rattle.std.proofs.Common.{[], codes, List, Ok}
use Rattle.std.proofs.lemmas.Result.{err_from_is_err_and}
use Rattle.lc_job.specs.declared.job.Job.{Job}
use Rattle.lc_light.specs.declared.lights.Lights.{Lights}
use Rattle.lc_mtl.specs.declared.material.Material.{Material}
use Rattle.lc_obj.specs.declared.mesh.Mesh.{Mesh}
use Rattle.lc_make.specs.declared.made.Made.{Made}
use Rattle.lc_tool.specs.declared.world.World.{World}
use Rattle.lc_tool.specs.Course.{Course, at_once}
use Rattle.lc_tool.specs.Outcome.{job_text, library_text, lights_text, made_built, made_furnished, made_lit, made_world, mesh_text, world_by}
use Rattle.lc_tool.proofs.Parsing.{stopped_at, stopped_from, stopped_from_if, went_from_if}
use Rattle.lc_tool.proofs.make.made_world.Goals as goal

abbrev job_step : Made → Course Job
job_step made = job_text (codes "made.txt") made.job

abbrev mesh_step : Made → Course Mesh
mesh_step made = mesh_text (codes "made.obj") made.obj

abbrev items_step : Made → Course (List Material)
items_step made = library_text [] (codes "made.mtl") made.mtl

abbrev lights_step : Made → Job → Course Lights
lights_step made job = lights_text (codes "made.lights") job.seed made.lights

abbrev last : Job → Mesh → List Material → Lights → Course World
last job mesh items lights = at_once (Ok (world_by job mesh items lights))

pub returns-in_err-job-clause-stopped : goal.returns-in_err-job-clause-stopped
unfolding made_world
returns-in_err-job-clause-stopped g c =
    let made = c.args.made.now in
    let p = err_from_is_err_and c.from_residual.result c.from_residual.ensures.1 in
    rw (p.1, p.2)
    (stopped_at _ (job_step made) (made_built made) _ _ (rw c.as_slice.ensures at c.in_err-job.ensures.stopped))

pub returns-in_err-mesh-clause-stopped : goal.returns-in_err-mesh-clause-stopped
unfolding made_world
returns-in_err-mesh-clause-stopped g c =
    let made = c.args.made.now in
    let p = err_from_is_err_and c.from_residual-in_err-mesh.result c.from_residual-in_err-mesh.ensures.1 in
    rw (p.1, p.2)
    (stopped_from (job_step made) (made_built made) c.in_ok-job.job _ _ _ (rw c.as_slice.ensures at c.in_ok-job.ensures.went) _
    (stopped_at _ (mesh_step made) (made_furnished made c.in_ok-job.job) _ _ (rw c.as_slice-2.ensures at c.in_err-mesh.ensures.stopped)))

pub returns-in_err-parse_library-clause-stopped : goal.returns-in_err-parse_library-clause-stopped
unfolding made_world
returns-in_err-parse_library-clause-stopped g c =
    let made = c.args.made.now in
    let p = err_from_is_err_and c.from_residual-in_err-parse_library.result c.from_residual-in_err-parse_library.ensures.1 in
    rw (p.1, p.2)
    (stopped_from (job_step made) (made_built made) c.in_ok-job.job _ _ _ (rw c.as_slice.ensures at c.in_ok-job.ensures.went) _
    (stopped_from (mesh_step made) (made_furnished made c.in_ok-job.job) c.in_ok-mesh.mesh _ _ _ (rw c.as_slice-2.ensures at c.in_ok-mesh.ensures.went) _
    (stopped_at _ (items_step made) (made_lit made c.in_ok-job.job c.in_ok-mesh.mesh) _ _
    (rw (c.new-materials.ensures.none, c.as_slice-3.ensures) at c.in_err-parse_library.ensures.stopped))))

pub returns-in_err-lights-clause-stopped : goal.returns-in_err-lights-clause-stopped
unfolding made_world
returns-in_err-lights-clause-stopped g c =
    let made = c.args.made.now in
    let p = err_from_is_err_and c.from_residual-in_err-lights.result c.from_residual-in_err-lights.ensures.1 in
    rw (p.1, p.2)
    (stopped_from (job_step made) (made_built made) c.in_ok-job.job _ _ _ (rw c.as_slice.ensures at c.in_ok-job.ensures.went) _
    (stopped_from (mesh_step made) (made_furnished made c.in_ok-job.job) c.in_ok-mesh.mesh _ _ _ (rw c.as_slice-2.ensures at c.in_ok-mesh.ensures.went) _
    (stopped_from (items_step made) (made_lit made c.in_ok-job.job c.in_ok-mesh.mesh) c.parse_library.new.materials.items _ _ _
    (rw (c.new-materials.ensures.none, c.as_slice-3.ensures) at c.in_ok-parse_library.ensures.went) _
    (stopped_at _ (lights_step made c.in_ok-job.job) (last c.in_ok-job.job c.in_ok-mesh.mesh c.parse_library.new.materials.items) _ _
    (rw c.as_slice-4.ensures at c.in_err-lights.ensures.stopped)))))

pub returns-clause-went : goal.returns-clause-went
unfolding made_world
returns-clause-went g c =
    let made = c.args.made.now in
    went_from_if (job_step made) (made_built made) c.in_ok-job.job _ _ _ (rw c.as_slice.ensures at c.in_ok-job.ensures.went) c.join_world.result
    (went_from_if (mesh_step made) (made_furnished made c.in_ok-job.job) c.in_ok-mesh.mesh _ _ _ (rw c.as_slice-2.ensures at c.in_ok-mesh.ensures.went) c.join_world.result
    (went_from_if (items_step made) (made_lit made c.in_ok-job.job c.in_ok-mesh.mesh) c.parse_library.new.materials.items _ _ _
    (rw (c.new-materials.ensures.none, c.as_slice-3.ensures) at c.in_ok-parse_library.ensures.went) c.join_world.result
    (went_from_if (lights_step made c.in_ok-job.job) (last c.in_ok-job.job c.in_ok-mesh.mesh c.parse_library.new.materials.items) c.in_ok-lights.lights _ _ _
    (rw c.as_slice-4.ensures at c.in_ok-lights.ensures.went) c.join_world.result c.join_world.ensures.went)))

pub returns-clause-stopped : goal.returns-clause-stopped
unfolding made_world
returns-clause-stopped g c =
    let made = c.args.made.now in
    stopped_from_if (job_step made) (made_built made) c.in_ok-job.job _ _ _ (rw c.as_slice.ensures at c.in_ok-job.ensures.went) c.join_world.result
    (stopped_from_if (mesh_step made) (made_furnished made c.in_ok-job.job) c.in_ok-mesh.mesh _ _ _ (rw c.as_slice-2.ensures at c.in_ok-mesh.ensures.went) c.join_world.result
    (stopped_from_if (items_step made) (made_lit made c.in_ok-job.job c.in_ok-mesh.mesh) c.parse_library.new.materials.items _ _ _
    (rw (c.new-materials.ensures.none, c.as_slice-3.ensures) at c.in_ok-parse_library.ensures.went) c.join_world.result
    (stopped_from_if (lights_step made c.in_ok-job.job) (last c.in_ok-job.job c.in_ok-mesh.mesh c.parse_library.new.materials.items) c.in_ok-lights.lights _ _ _
    (rw c.as_slice-4.ensures at c.in_ok-lights.ensures.went) c.join_world.result c.join_world.ensures.stopped)))
