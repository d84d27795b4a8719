use Rattle.std.proofs.Common.{List, ℕ, ap, ◌∙◌}
use Rattle.lc_scan.specs.Lines.{line}
use Rattle.lc_mtl.specs.Drafts.{taken}
use Rattle.lc_mtl.proofs.ReadLemmas.{start, takes, stops, ends}
use Rattle.lc_mtl.proofs.reader.read_materials.Goals as goal

pub loop-number-init : goal.loop-number-init
loop-number-init c = start c.args.held c.args.bytes.now c.new-lines.result c.new-drafts.result c.requires.few c.new-lines.ensures c.new-drafts.ensures

pub loop-number-preserved : goal.loop-number-preserved
loop-number-preserved c =
    let at = c.loop-number in
    takes c.args.held c.args.bytes.now at.lines c.next_spoken.new.lines (line c.in-Some.number c.in-Some.line.now) at.drafts c.take.new.self c.len.result c.in-Ok.entry c.in-Some.ensures.next c.len.ensures c.in-Ok.ensures.0 c.in-Ok.ensures.1
    (c.in_ok-take-in-Ok.ensures ∙ ap (λ (name : List ℕ). taken c.in-Ok.entry name at.drafts) c.rest.ensures) at.invariant

pub returns-in-Err-clause-fault : goal.returns-in-Err-clause-fault
returns-in-Err-clause-fault c =
    let at = c.loop-number in
    stops c.args.held c.args.bytes.now at.lines c.next_spoken.new.lines (line c.in-Some.number c.in-Some.line.now) at.drafts c.len.result c.number.result c.in-Err.kind c.in-Some.ensures.next c.len.ensures c.in-Err.ensures c.number.ensures at.invariant

pub returns-clause-ok : goal.returns-clause-ok
returns-clause-ok c =
    let at = c.loop-number in
    let both = ends c.args.held c.args.bytes.now at.lines at.drafts c.in_default.ensures.next at.invariant in (both.0, c.in_ok-read.ensures ∙ both.1)
