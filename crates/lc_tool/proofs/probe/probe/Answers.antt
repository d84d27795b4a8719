use Rattle.std.proofs.Common.{[], ◌∷◌, Ok, Some, subst}
use Rattle.lc_desk.specs.declared.desk.Slot.TheVariants.{Report}
use Rattle.lc_tool.specs.Course.{at_once}
use Rattle.lc_tool.specs.Outcome.{lights_of, probe_answer, probe_work}
use Rattle.lc_tool.specs.Ends.{Ends}
use Rattle.lc_tool.proofs.Ending.{ends_last}
use Rattle.lc_tool.proofs.Stopping.{stopped_first}
use Rattle.lc_tool.proofs.Probing.{probe_counts}
use Rattle.lc_tool.proofs.probe.probe.Goals as goal

pub returns-in-Err-clause-ends : goal.returns-in-Err-clause-ends
returns-in-Err-clause-ends g c =
    stopped_first c.in-Err.stop (lights_of c.args.name.now 0) (λ files lights. at_once (Ok (probe_work (probe_answer c.args.place c.args.direction lights)))) _ _ _ c.in-Err.ensures.stopped

pub returns-in-Ok-answer_at-clause-ends : goal.returns-in-Ok-answer_at-clause-ends
returns-in-Ok-answer_at-clause-ends g c =
    ends_last c.report.result (Report ∷ []) (lights_of c.args.name.now 0) (λ lights. probe_work (probe_answer c.args.place c.args.direction lights)) c.in-Ok.lights _ _ _
    c.in-Ok.ensures.went
    (subst (λ answer. Ends c.report.result (Report ∷ []) (Some (at_once (Ok (probe_work answer)))) (g.D.Desk.state c.read_light_file.new.desk) (g.D.Desk.state c.report.new.desk))
    c.in-Ok-answer_at.ensures.value c.report.ensures)

pub returns-in-Ok-answer_at-clause-counted : goal.returns-in-Ok-answer_at-clause-counted
returns-in-Ok-answer_at-clause-counted g c =
    probe_counts c.report.result _ c.args.name.now c.args.place c.args.direction c.in-Ok.lights c.in-Ok-answer_at.answer _ _ _ _ c.in-Ok.ensures.went.told c.in-Ok-answer_at.ensures.value c.in-Ok-answer_at.ensures.steps
