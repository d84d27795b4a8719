use Rattle.std.proofs.Common.{sym, subst}
use Rattle.lc_scan.specs.Lines.{line}
use Rattle.lc_obj.specs.Meshes.{IsMesh}
use Rattle.lc_obj.proofs.ValidMeshes.{mesh_valid}
use Rattle.lc_obj.proofs.ReadLemmas.{start, few_names, takes, stops, ends}
use Rattle.lc_obj.proofs.reader.read_obj.Goals as goal

pub loop-number-init : goal.loop-number-init
loop-number-init c = start c.args.bytes.now c.new-lines.result c.new-reading.result c.new-lines.ensures c.new-reading.ensures

pub take-requires-clause-few : goal.take-requires-clause-few
take-requires-clause-few c = few_names c.args.bytes.now c.loop-number.lines c.loop-number.reading c.requires c.loop-number.invariant

pub loop-number-preserved : goal.loop-number-preserved
loop-number-preserved c =
    takes c.args.bytes.now c.loop-number.lines c.next_spoken.new.lines (line c.in-Some.number c.in-Some.line.now) c.loop-number.reading c.take.new.self c.in-Some.ensures.next c.in-Ok.ensures.ok c.in-Ok.ensures.valid c.loop-number.invariant

pub returns-in-Err-Fault-clause-fault : goal.returns-in-Err-Fault-clause-fault
returns-in-Err-Fault-clause-fault c =
    stops c.args.bytes.now c.loop-number.lines c.next_spoken.new.lines (line c.in-Some.number c.in-Some.line.now) c.loop-number.reading c.in-Err-Fault.kind c.number.result c.in-Some.ensures.next
    (rw c.in-Err-Fault.field-0-is at c.in-Err-Fault.ensures.fault) (let e = c.in-Err-Fault.kind-is in let f = c.number.ensures in cc) c.loop-number.invariant

pub returns-clause-ok : goal.returns-clause-ok
returns-clause-ok c = ends c.args.bytes.now c.loop-number.lines c.loop-number.reading c.in_default.ensures.next c.loop-number.invariant

pub returns-clause-valid : goal.returns-clause-valid
returns-clause-valid c =
    let both = returns-clause-ok c in
    subst IsMesh (sym both.1) (mesh_valid c.args.bytes.now both.0)
