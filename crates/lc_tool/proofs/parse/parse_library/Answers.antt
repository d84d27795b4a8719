use Rattle.std.proofs.Common.{◌≡◌, length, None, Some, ap, refl, rules}
use Rattle.lc_mtl.specs.MtlFile.{fault_in, materials}
use Rattle.lc_tool.specs.declared.status.Source.TheVariants.{Library}
use Rattle.lc_tool.specs.Course.{at_once}
use Rattle.lc_tool.specs.Lines.{fault_line}
use Rattle.lc_tool.specs.Outcome.{library_text, unless_faulty}
use Rattle.lc_tool.proofs.Parsing.{parse_faulty, parse_short, parsed}
use Rattle.lc_tool.proofs.parse.parse_library.Goals as goal

pub returns-in-Ok-clause-went : goal.returns-in-Ok-clause-went
returns-in-Ok-clause-went g c =
    let text = c.args.text.now in
    let before = c.args.materials.now.items in
    let none : fault_in (length before) text ≡ None = search rules in
    let mine : c.read_mtl.new.into.items ≡ materials before text = search rules in
    parsed (library_text before c.args.name.now text) c.read_mtl.new.into.items _ (rw (none, mine) refl)

pub returns-in-Err-Memory-clause-stopped : goal.returns-in-Err-Memory-clause-stopped
returns-in-Err-Memory-clause-stopped g c = parse_short (library_text c.args.materials.now.items c.args.name.now c.args.text.now) _ _ c.note_memory.ensures.noted c.note_memory.ensures.asked c.note_memory.ensures.counts

pub returns-in-Err-Fault-clause-stopped : goal.returns-in-Err-Fault-clause-stopped
returns-in-Err-Fault-clause-stopped g c =
    let text = c.args.text.now in
    let before = c.args.materials.now.items in
    let found : fault_in (length before) text ≡ Some (record { line = c.in-Err-Fault.line; kind = c.in-Err-Fault.kind }) = search rules in
    parse_faulty Library (fault_line c.args.name.now c.in-Err-Fault.line c.in-Err-Fault.kind) (library_text before c.args.name.now text) _ _
    (c.args.name.now, c.in-Err-Fault.line, c.in-Err-Fault.kind, refl) (ap (λ o. at_once (unless_faulty Library c.args.name.now o (materials before text))) found)
    c.note_fault.ensures.noted c.note_fault.ensures.asked
