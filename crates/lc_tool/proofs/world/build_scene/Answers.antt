use Rattle.std.proofs.lemmas.Result.{err_from_is_err_and}
use Rattle.lc_desk.specs.Desk.{Files}
use Rattle.lc_job.specs.declared.job.Job.{Job}
use Rattle.lc_obj.specs.declared.mesh.Mesh.{Mesh}
use Rattle.lc_tool.specs.declared.world.World.{World}
use Rattle.lc_tool.specs.Course.{Course}
use Rattle.lc_tool.specs.Outcome.{furnished, mesh_of}
use Rattle.lc_tool.proofs.Stopping.{stopped_first, went_after, stopped_after}
use Rattle.lc_tool.proofs.world.build_scene.Goals as goal

abbrev next : Job → Files → Mesh → Course World
next job files mesh = furnished job mesh files

pub returns-in_err-mesh-clause-stopped : goal.returns-in_err-mesh-clause-stopped
returns-in_err-mesh-clause-stopped g c =
    let p = err_from_is_err_and c.from_residual.result c.from_residual.ensures.1 in
    rw (p.1, p.2)
    (stopped_first _ (mesh_of c.args.job.scene) (next c.args.job) _ _ _ (rw c.as_str.ensures at c.in_err-mesh.ensures.stopped))

pub returns-clause-went : goal.returns-clause-went
returns-clause-went g c =
    went_after c.furnish_scene.result (mesh_of c.args.job.scene) (next c.args.job) c.in_ok-mesh.mesh _ _ _ (rw c.as_str.ensures at c.in_ok-mesh.ensures.went) c.furnish_scene.ensures.went

pub returns-clause-stopped : goal.returns-clause-stopped
returns-clause-stopped g c =
    stopped_after c.furnish_scene.result (mesh_of c.args.job.scene) (next c.args.job) c.in_ok-mesh.mesh _ _ _ (rw c.as_str.ensures at c.in_ok-mesh.ensures.went) c.furnish_scene.ensures.stopped
