use Rattle.std.proofs.Common.{◌∷◌, []}
use Rattle.lc_desk.specs.Calls.{put}
use Rattle.lc_desk.specs.declared.desk.Slot.TheVariants.{Report}
use Rattle.lc_desk.proofs.CallLemmas.{made_then}
use Rattle.lc_tool.specs.Outcome.{made_files, make_work}
use Rattle.lc_tool.proofs.Ending.{broken_now, done_now}
use Rattle.lc_tool.proofs.Making.{frame_calls, frame_stopped, line, line_stopped, make_on}
use Rattle.lc_tool.proofs.make.write_made.Goals as goal

pub returns-in-Err-clause-ends : goal.returns-in-Err-clause-ends
unfolding make_work
returns-in-Err-clause-ends g c =
    let world = c.args.world.now in
    rw c.settle.ensures.status
    (broken_now c.in-Err.stop made_files (make_work c.args.number world) _ _ _ (make_on c.args.number world)
    (frame_stopped c.args.number world c.in-Err.stop _ _ c.in-Err.ensures.stopped) c.settle.ensures.noted c.settle.ensures.asked)

pub returns-in-Ok-put_summary-clause-ends : goal.returns-in-Ok-put_summary-clause-ends
unfolding make_work
returns-in-Ok-put_summary-clause-ends g c =
    let world = c.args.world.now in
    done_now made_files (make_work c.args.number world) _ _ (make_on c.args.number world)
    (made_then (frame_calls c.args.number world) (put Report (line c.args.number world) ∷ []) _ _ _ c.in-Ok.ensures.made (rw c.in-Ok.ensures.summary at c.in-Ok-put_summary.ensures.made))

pub returns-in-Ok-put_summary-clause-counted : goal.returns-in-Ok-put_summary-clause-counted
unfolding make_work
returns-in-Ok-put_summary-clause-counted g c = λ done. c.in-Ok.ensures.steps

pub returns-in-Err-put_summary-clause-ends : goal.returns-in-Err-put_summary-clause-ends
unfolding make_work
returns-in-Err-put_summary-clause-ends g c =
    let world = c.args.world.now in
    rw c.settle-in-Err-put_summary.ensures.status
    (broken_now c.in-Err-put_summary.stop made_files (make_work c.args.number world) _ _ _ (make_on c.args.number world)
    (line_stopped c.args.number world c.in-Err-put_summary.stop _ _ _ c.in-Ok.ensures.made (rw c.in-Ok.ensures.summary at c.in-Err-put_summary.ensures.broke))
    c.settle-in-Err-put_summary.ensures.noted c.settle-in-Err-put_summary.ensures.asked)
