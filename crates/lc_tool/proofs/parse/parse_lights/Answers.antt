use Rattle.std.proofs.Common.{◌≡◌, None, Some, ap, refl, rules}
use Rattle.lc_light.specs.LightFile.{fault_in, lights}
use Rattle.lc_tool.specs.declared.status.Source.TheVariants.{Lights}
use Rattle.lc_tool.specs.Course.{at_once}
use Rattle.lc_tool.specs.Lines.{fault_line}
use Rattle.lc_tool.specs.Outcome.{lights_text, unless_faulty}
use Rattle.lc_tool.proofs.Parsing.{parse_faulty, parse_short, parsed}
use Rattle.lc_tool.proofs.parse.parse_lights.Goals as goal

pub returns-in-Ok-clause-went : goal.returns-in-Ok-clause-went
returns-in-Ok-clause-went g c =
    let text = c.args.text.now in
    let none : fault_in text ≡ None = search rules in
    let mine : c.in-Ok.lights ≡ lights text c.args.seed = search rules in
    parsed (lights_text c.args.name.now c.args.seed text) c.in-Ok.lights _ (rw (none, mine) refl)

pub returns-in-Err-Memory-clause-stopped : goal.returns-in-Err-Memory-clause-stopped
returns-in-Err-Memory-clause-stopped g c = parse_short (lights_text c.args.name.now c.args.seed c.args.text.now) _ _ c.note_memory.ensures.noted c.note_memory.ensures.asked c.note_memory.ensures.counts

pub returns-in-Err-Fault-clause-stopped : goal.returns-in-Err-Fault-clause-stopped
returns-in-Err-Fault-clause-stopped g c =
    let text = c.args.text.now in
    let found : fault_in text ≡ Some (record { line = c.in-Err-Fault.line; kind = c.in-Err-Fault.kind }) = search rules in
    parse_faulty Lights (fault_line c.args.name.now c.in-Err-Fault.line c.in-Err-Fault.kind) (lights_text c.args.name.now c.args.seed text) _ _
    (c.args.name.now, c.in-Err-Fault.line, c.in-Err-Fault.kind, refl) (ap (λ o. at_once (unless_faulty Lights c.args.name.now o (lights text c.args.seed))) found)
    c.note_fault.ensures.noted c.note_fault.ensures.asked
