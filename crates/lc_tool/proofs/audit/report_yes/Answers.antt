use Rattle.std.proofs.Common.{◌≡◌, [], ◌∷◌, rules}
use Rattle.lc_desk.specs.declared.desk.Slot.TheVariants.{Report}
use Rattle.lc_tool.specs.Outcome.{yes_line}
use Rattle.lc_tool.proofs.Auditing.{yes_work}
use Rattle.lc_tool.proofs.Ending.{broken_now, done_now, report_on, stopped_by}
use Rattle.lc_tool.proofs.audit.report_yes.Goals as goal

pub returns-in-Ok : goal.returns-in-Ok
returns-in-Ok g c =
    let line : c.as_bytes.result.now ≡ yes_line c.args.checked = search rules in
    done_now (Report ∷ []) (yes_work c.args.checked) _ _ (report_on (yes_line c.args.checked)) (rw line at c.in-Ok.ensures.made)

pub returns-in-Err : goal.returns-in-Err
returns-in-Err g c =
    let line : c.as_bytes.result.now ≡ yes_line c.args.checked = search rules in
    rw c.settle.ensures.status
    (broken_now c.in-Err.stop (Report ∷ []) (yes_work c.args.checked) _ _ _ (report_on (yes_line c.args.checked))
    (stopped_by c.in-Err.stop (yes_work c.args.checked) _ _ (rw line at c.in-Err.ensures.broke)) c.settle.ensures.noted c.settle.ensures.asked)
