use Rattle.std.proofs.Common.{sym, ap, ◌∙◌, Some}
use Rattle.std.specs.Prelude.{option_map}
use Rattle.lc_tool.specs.Meant.{meant}
use Rattle.lc_tool.specs.Words.{texts}
use Rattle.lc_tool.proofs.Auditing.{audit_counted}
use Rattle.lc_tool.proofs.PlainRuns.{plain_counted}
use Rattle.lc_tool.proofs.program.attempt.Goals as goal

pub returns-in-Some-Plain-clause-counted : goal.returns-in-Some-Plain-clause-counted
returns-in-Some-Plain-clause-counted g c =
    plain_counted (texts c.args.words.now) _ c.plain.result c.in-Some-Plain.job.now _ (sym c.read_words.ensures.value ∙ ap (option_map meant) c.in-Some-Plain.is ∙ ap (λ x. Some (meant x)) c.in-Some-Plain.field-0-is)

pub returns-in-Some-Audit-clause-counted : goal.returns-in-Some-Audit-clause-counted
returns-in-Some-Audit-clause-counted g c =
    audit_counted (texts c.args.words.now) _ c.audit.result c.in-Some-Audit.job.now c.in-Some-Audit.step _
    (sym c.read_words.ensures.value ∙ ap (option_map meant) c.in-Some-Audit.is ∙ ap (λ x. Some (meant x)) c.in-Some-Audit.field-0-is)
