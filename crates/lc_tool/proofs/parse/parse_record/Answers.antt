use Rattle.std.proofs.Common.{◌≡◌, Ok, Err, ap, refl, rules}
use Rattle.lc_record.specs.Readings.{record_in}
use Rattle.lc_tool.specs.declared.status.Source.TheVariants.{Record}
use Rattle.lc_tool.specs.Course.{at_once}
use Rattle.lc_tool.specs.Lines.{fault_line}
use Rattle.lc_tool.specs.Outcome.{kept_text, unless_wrong}
use Rattle.lc_tool.proofs.Parsing.{parse_faulty, parse_short, parsed}
use Rattle.lc_tool.proofs.parse.parse_record.Goals as goal

pub returns-in-Ok-clause-went : goal.returns-in-Ok-clause-went
returns-in-Ok-clause-went g c =
    let text = c.args.text.now in
    let mine : record_in text ≡ Ok c.in-Ok.kept = search rules in
    parsed (kept_text c.args.name.now text) c.in-Ok.kept _ (rw mine refl)

pub returns-in-Err-Memory-clause-stopped : goal.returns-in-Err-Memory-clause-stopped
returns-in-Err-Memory-clause-stopped g c = parse_short (kept_text c.args.name.now c.args.text.now) _ _ c.note_memory.ensures.noted c.note_memory.ensures.asked c.note_memory.ensures.counts

pub returns-in-Err-Fault-clause-stopped : goal.returns-in-Err-Fault-clause-stopped
returns-in-Err-Fault-clause-stopped g c =
    let text = c.args.text.now in
    let found : record_in text ≡ Err (record { line = c.in-Err-Fault.line; kind = c.in-Err-Fault.kind }) = search rules in
    parse_faulty Record (fault_line c.args.name.now c.in-Err-Fault.line c.in-Err-Fault.kind) (kept_text c.args.name.now text) _ _
    (c.args.name.now, c.in-Err-Fault.line, c.in-Err-Fault.kind, refl) (ap (λ o. at_once (unless_wrong c.args.name.now o)) found)
    c.note_fault.ensures.noted c.note_fault.ensures.asked
