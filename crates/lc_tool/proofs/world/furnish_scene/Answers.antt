use Rattle.std.proofs.Common.{List, [], map}
use Rattle.std.proofs.lemmas.Result.{err_from_is_err_and}
use Rattle.lc_desk.specs.Desk.{Files}
use Rattle.lc_job.specs.declared.job.Job.{Job}
use Rattle.lc_mtl.specs.declared.material.Material.{Material}
use Rattle.lc_obj.specs.declared.mesh.Mesh.{Mesh}
use Rattle.lc_tool.specs.declared.world.World.{World}
use Rattle.lc_tool.specs.Course.{Course}
use Rattle.lc_tool.specs.Outcome.{beside, libraries_of, lit}
use Rattle.lc_tool.proofs.Stopping.{stopped_first, went_after, stopped_after}
use Rattle.lc_tool.proofs.world.furnish_scene.Goals as goal

abbrev step : Job → Mesh → Files → Course (List Material)
step job mesh = libraries_of (map (beside job.scene) mesh.libs) []

abbrev next : Job → Mesh → Files → List Material → Course World
next job mesh files items = lit job mesh items files

pub returns-in_err-materials-clause-stopped : goal.returns-in_err-materials-clause-stopped
returns-in_err-materials-clause-stopped g c =
    let p = err_from_is_err_and c.from_residual.result c.from_residual.ensures.1 in
    rw (p.1, p.2)
    (stopped_first _ (step c.args.job c.args.mesh) (next c.args.job c.args.mesh) _ _ _
    (rw (c.as_str.ensures, c.as_slice.ensures) at c.in_err-materials.ensures.stopped))

pub returns-clause-went : goal.returns-clause-went
returns-clause-went g c = went_after c.light_scene.result (step c.args.job c.args.mesh) (next c.args.job c.args.mesh) c.in_ok-materials.materials.items _ _ _
    (rw (c.as_str.ensures, c.as_slice.ensures) at c.in_ok-materials.ensures.went) c.light_scene.ensures.went

pub returns-clause-stopped : goal.returns-clause-stopped
returns-clause-stopped g c = stopped_after c.light_scene.result (step c.args.job c.args.mesh) (next c.args.job c.args.mesh) c.in_ok-materials.materials.items _ _ _
    (rw (c.as_str.ensures, c.as_slice.ensures) at c.in_ok-materials.ensures.went) c.light_scene.ensures.stopped
