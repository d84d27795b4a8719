use Rattle.std.proofs.Common.{◌≡◌, [], ◌∷◌, rules}
use Rattle.lc_desk.specs.declared.desk.Slot.TheVariants.{Report}
use Rattle.lc_record.specs.Record.{line_bytes}
use Rattle.lc_tool.specs.Outcome.{probe_work}
use Rattle.lc_tool.proofs.Ending.{broken_now, done_now, report_on, stopped_by}
use Rattle.lc_tool.proofs.probe.report.Goals as goal

pub returns-in-Ok : goal.returns-in-Ok
returns-in-Ok g c =
    let line : c.as_slice.result.now ≡ line_bytes c.args.answer.now = search rules in
    done_now (Report ∷ []) (probe_work c.args.answer.now) _ _ (report_on (line_bytes c.args.answer.now)) (rw line at c.in-Ok.ensures.made)

pub returns-in-Err : goal.returns-in-Err
returns-in-Err g c =
    let line : c.as_slice.result.now ≡ line_bytes c.args.answer.now = search rules in
    rw c.settle.ensures.status
    (broken_now c.in-Err.stop (Report ∷ []) (probe_work c.args.answer.now) _ _ _ (report_on (line_bytes c.args.answer.now))
    (stopped_by c.in-Err.stop (probe_work c.args.answer.now) _ _ (rw line at c.in-Err.ensures.broke)) c.settle.ensures.noted c.settle.ensures.asked)
