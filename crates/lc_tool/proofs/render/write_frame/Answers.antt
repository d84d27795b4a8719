use Rattle.lc_frame.specs.Files.{files}
use Rattle.lc_frame.specs.Frames.{answers_of}
use Rattle.lc_tool.specs.Outcome.{render_work}
use Rattle.lc_tool.proofs.Ending.{done_now, broken_now}
use Rattle.lc_frame.proofs.WrittenLemmas.{calls_on}
use Rattle.lc_tool.proofs.render.write_frame.Goals as goal

pub returns-in-Ok-clause-ends : goal.returns-in-Ok-clause-ends
unfolding render_work
returns-in-Ok-clause-ends g c =
    let world = c.args.world.now in
    done_now files (render_work world) _ _ (calls_on world.job (answers_of world.job world.scene)) c.in-Ok.ensures.made

pub returns-in-Ok-clause-counted : goal.returns-in-Ok-clause-counted
unfolding render_work
returns-in-Ok-clause-counted g c = λ done. c.in-Ok.ensures.steps

pub returns-in-Err-clause-ends : goal.returns-in-Err-clause-ends
unfolding render_work
returns-in-Err-clause-ends g c =
    let world = c.args.world.now in
    rw c.settle.ensures.status
    (broken_now c.in-Err.stop files (render_work world) _ _ _ (calls_on world.job (answers_of world.job world.scene)) c.in-Err.ensures.stopped c.settle.ensures.noted c.settle.ensures.asked)
