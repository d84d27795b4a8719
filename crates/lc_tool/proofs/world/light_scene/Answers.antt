use Rattle.std.proofs.Common.{List, Ok}
use Rattle.std.proofs.lemmas.Result.{err_from_is_err_and}
use Rattle.lc_job.specs.declared.job.Job.{Job}
use Rattle.lc_light.specs.declared.lights.Lights.{Lights}
use Rattle.lc_mtl.specs.declared.material.Material.{Material}
use Rattle.lc_obj.specs.declared.mesh.Mesh.{Mesh}
use Rattle.lc_tool.specs.declared.world.World.{World}
use Rattle.lc_tool.specs.Course.{Course, at_once}
use Rattle.lc_tool.specs.Outcome.{lights_of, world_by}
use Rattle.lc_tool.proofs.Parsing.{stopped_parsed, went_parsed}
use Rattle.lc_tool.proofs.Stopping.{stopped_first}
use Rattle.lc_tool.proofs.world.light_scene.Goals as goal

abbrev next : Job → Mesh → List Material → Lights → Course World
next job mesh items lights = at_once (Ok (world_by job mesh items lights))

pub returns-in_err-lights-clause-stopped : goal.returns-in_err-lights-clause-stopped
returns-in_err-lights-clause-stopped g c =
    let p = err_from_is_err_and c.from_residual.result c.from_residual.ensures.1 in
    rw (p.1, p.2)
    (stopped_first _ (lights_of c.args.job.lights c.args.job.seed) (λ files. next c.args.job c.args.mesh c.args.materials.now.items) _ _ _
    (rw c.as_str.ensures at c.in_err-lights.ensures.stopped))

pub returns-clause-went : goal.returns-clause-went
returns-clause-went g c =
    went_parsed (lights_of c.args.job.lights c.args.job.seed) (next c.args.job c.args.mesh c.args.materials.now.items) c.in_ok-lights.lights _ _ _
    (rw c.as_str.ensures at c.in_ok-lights.ensures.went) c.join_world.result c.join_world.ensures.went

pub returns-clause-stopped : goal.returns-clause-stopped
returns-clause-stopped g c =
    stopped_parsed (lights_of c.args.job.lights c.args.job.seed) (next c.args.job c.args.mesh c.args.materials.now.items) c.in_ok-lights.lights _ _ _
    (rw c.as_str.ensures at c.in_ok-lights.ensures.went) c.join_world.result c.join_world.ensures.stopped
