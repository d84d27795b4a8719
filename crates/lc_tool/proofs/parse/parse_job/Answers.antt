use Rattle.std.proofs.Common.{◌≡◌, None, Some, ap, refl, rules, inl, inr}
use Rattle.lc_job.specs.JobFile.{first_stop, job_in}
use Rattle.lc_job.specs.declared.stop.JobStop.TheVariants.{Fault, Missing}
use Rattle.lc_tool.specs.declared.status.Source.TheVariants.{Job}
use Rattle.lc_tool.specs.Course.{at_once}
use Rattle.lc_tool.specs.Lines.{fault_line, missing_line}
use Rattle.lc_tool.specs.Outcome.{job_text, unless_stopped}
use Rattle.lc_tool.proofs.Parsing.{parse_faulty, parse_short, parsed}
use Rattle.lc_tool.proofs.parse.parse_job.Goals as goal

pub returns-in-Ok-clause-went : goal.returns-in-Ok-clause-went
returns-in-Ok-clause-went g c =
    let text = c.args.text.now in
    let none : first_stop text ≡ None = search rules in
    let mine : c.in-Ok.job ≡ job_in text = search rules in
    parsed (job_text c.args.name.now text) c.in-Ok.job _ (rw (none, mine) refl)

pub returns-in-Err-Memory-clause-stopped : goal.returns-in-Err-Memory-clause-stopped
returns-in-Err-Memory-clause-stopped g c = parse_short (job_text c.args.name.now c.args.text.now) _ _ c.note_memory.ensures.noted c.note_memory.ensures.asked c.note_memory.ensures.counts

pub returns-in-Err-Fault-clause-stopped : goal.returns-in-Err-Fault-clause-stopped
returns-in-Err-Fault-clause-stopped g c =
    let text = c.args.text.now in
    let found : first_stop text ≡ Some (Fault c.in-Err-Fault.line c.in-Err-Fault.kind) = search rules in
    parse_faulty Job (fault_line c.args.name.now c.in-Err-Fault.line c.in-Err-Fault.kind) (job_text c.args.name.now text) _ _
    (c.args.name.now, inl (c.in-Err-Fault.line, c.in-Err-Fault.kind, refl)) (ap (λ o. at_once (unless_stopped c.args.name.now o (job_in text))) found)
    c.note_fault.ensures.noted c.note_fault.ensures.asked

pub returns-in-Err-Missing-clause-stopped : goal.returns-in-Err-Missing-clause-stopped
returns-in-Err-Missing-clause-stopped g c =
    let text = c.args.text.now in
    let found : first_stop text ≡ Some (Missing c.in-Err-Missing.key) = search rules in
    parse_faulty Job (missing_line c.args.name.now c.in-Err-Missing.key) (job_text c.args.name.now text) _ _
    (c.args.name.now, inr (c.in-Err-Missing.key, refl)) (ap (λ o. at_once (unless_stopped c.args.name.now o (job_in text))) found)
    c.note_missing.ensures.noted c.note_missing.ensures.asked
