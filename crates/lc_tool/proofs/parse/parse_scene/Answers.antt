use Rattle.std.proofs.Common.{◌≡◌, None, Some, ap, refl, rules}
use Rattle.lc_obj.specs.ObjFile.{fault_in, mesh}
use Rattle.lc_tool.specs.declared.status.Source.TheVariants.{Scene}
use Rattle.lc_tool.specs.Course.{at_once}
use Rattle.lc_tool.specs.Lines.{fault_line}
use Rattle.lc_tool.specs.Outcome.{mesh_text, unless_faulty}
use Rattle.lc_tool.proofs.Parsing.{parse_faulty, parse_short, parsed}
use Rattle.lc_tool.proofs.parse.parse_scene.Goals as goal

pub returns-in-Ok-clause-went : goal.returns-in-Ok-clause-went
returns-in-Ok-clause-went g c =
    let text = c.args.text.now in
    let none : fault_in text ≡ None = search rules in
    let mine : c.in-Ok.mesh ≡ mesh text = search rules in
    parsed (mesh_text c.args.name.now text) c.in-Ok.mesh _ (rw (none, mine) refl)

pub returns-in-Err-Memory-clause-stopped : goal.returns-in-Err-Memory-clause-stopped
returns-in-Err-Memory-clause-stopped g c = parse_short (mesh_text c.args.name.now c.args.text.now) _ _ c.note_memory.ensures.noted c.note_memory.ensures.asked c.note_memory.ensures.counts

pub returns-in-Err-Fault-clause-stopped : goal.returns-in-Err-Fault-clause-stopped
returns-in-Err-Fault-clause-stopped g c =
    let text = c.args.text.now in
    let found : fault_in text ≡ Some (record { line = c.in-Err-Fault.line; kind = c.in-Err-Fault.kind }) = search rules in
    parse_faulty Scene (fault_line c.args.name.now c.in-Err-Fault.line c.in-Err-Fault.kind) (mesh_text c.args.name.now text) _ _
    (c.args.name.now, c.in-Err-Fault.line, c.in-Err-Fault.kind, refl) (ap (λ o. at_once (unless_faulty Scene c.args.name.now o (mesh text))) found)
    c.note_fault.ensures.noted c.note_fault.ensures.asked
