use Rattle.std.proofs.Common.{subst, sym}
use Rattle.lc_scan.specs.Lines.{line}
use Rattle.lc_job.specs.JobFile.{fault_in}
use Rattle.lc_job.specs.Stops.{IsOfLine}
use Rattle.lc_job.specs.declared.stop.JobStop.{JobStop}
use Rattle.lc_job.proofs.ReadLemmas.{start, takes, stops, ends}
use Rattle.lc_job.proofs.reader.read_lines.Goals as goal

pub loop-number-init : goal.loop-number-init
loop-number-init c = start c.args.bytes.now c.new-lines.result c.new-draft.result c.new-lines.ensures c.new-draft.ensures

pub loop-number-preserved : goal.loop-number-preserved
loop-number-preserved c =
    let at = c.loop-number in
    takes c.args.bytes.now at.lines c.next_spoken.new.lines (line c.in-Some.number c.in-Some.line.now) at.draft c.take.new.self c.in-Ok.entry c.in-Some.ensures.next c.in-Ok.ensures.0 c.in-Ok.ensures.1 c.take.ensures at.invariant

pub returns-in-Err-clause-fault : goal.returns-in-Err-clause-fault
returns-in-Err-clause-fault c =
    let at = c.loop-number in
    subst (λ (s : JobStop). IsOfLine s (fault_in c.args.bytes.now)) (sym c.at.ensures)
    (stops c.args.bytes.now at.lines c.next_spoken.new.lines (line c.in-Some.number c.in-Some.line.now) at.draft c.in-Err.stop c.in-Some.ensures.next c.in-Err.ensures at.invariant)

pub returns-clause-ok : goal.returns-clause-ok
returns-clause-ok c =
    let at = c.loop-number in
    ends c.args.bytes.now at.lines at.draft c.in_default.ensures.next at.invariant
