use Rattle.std.proofs.lemmas.Result.{err_from_is_err_and}
use Rattle.lc_desk.specs.Desk.{Files}
use Rattle.lc_job.specs.declared.job.Job.{Job}
use Rattle.lc_tool.specs.declared.world.World.{World}
use Rattle.lc_tool.specs.Course.{Course}
use Rattle.lc_tool.specs.Outcome.{built, job_of, world_of}
use Rattle.lc_tool.proofs.Stopping.{stopped_first, went_after, stopped_after}
use Rattle.lc_tool.proofs.world.read_world.Goals as goal

abbrev next : Files → Job → Course World
next files job = built job files

pub returns-in_err-job-clause-stopped : goal.returns-in_err-job-clause-stopped
unfolding world_of
returns-in_err-job-clause-stopped g c =
    let p = err_from_is_err_and c.from_residual.result c.from_residual.ensures.1 in
    rw (p.1, p.2)
    (stopped_first _ (job_of c.args.name.now) next _ _ _ c.in_err-job.ensures.stopped)

pub returns-clause-went : goal.returns-clause-went
unfolding world_of
returns-clause-went g c = went_after c.build_scene.result (job_of c.args.name.now) next c.in_ok-job.job _ _ _ c.in_ok-job.ensures.went c.build_scene.ensures.went

pub returns-clause-stopped : goal.returns-clause-stopped
unfolding world_of
returns-clause-stopped g c = stopped_after c.build_scene.result (job_of c.args.name.now) next c.in_ok-job.job _ _ _ c.in_ok-job.ensures.went c.build_scene.ensures.stopped
