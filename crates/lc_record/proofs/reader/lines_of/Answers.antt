use Rattle.std.proofs.Common.{[], ◌∷◌, arith, length-append}
use Rattle.lc_record.proofs.LinesRead.{differs_here, ends_here, few, goes_on_here, more}
use Rattle.lc_record.proofs.reader.lines_of.Goals.{then-is_empty, else-is_empty}
use Rattle.lc_record.proofs.reader.lines_of.Goals as goal

pub fault_after-requires : goal.fault_after-requires
fault_after-requires c =
    let i = c.loop-before.invariant in
    omega (arith, i.count, few c.args.header.now c.loop-before.lines c.loop-before.rest.now c.args.bytes.now i.begins, c.requires.size)

pub returns-in_default-clause-fault : goal.returns-in_default-clause-fault
returns-in_default-clause-fault c =
    let i = c.loop-before.invariant in
    rw c.fault_after.ensures
    (elim c.if-is_empty.branch [
      | then-is_empty w ↦
          ends_here c.args.header.now c.loop-before.lines c.loop-before.rest.now c.args.bytes.now i.begins c.loop-before.before i.count c.if-is_empty.kind w.kind-is
          (omega (arith, c.loop-before-test.true, c.samples-count.ensures)) w.if-is_empty.ensures
      | else-is_empty w ↦
          differs_here c.args.header.now c.loop-before.lines c.loop-before.rest.now c.args.bytes.now i.begins c.loop-before.before i.count c.if-is_empty.kind w.kind-is
          (omega (arith, c.loop-before-test.true, c.samples-count.ensures)) w.if-is_empty.ensures c.in_default.ensures.none
    ])

pub loop-before-preserved : goal.loop-before-preserved
loop-before-preserved c =
    let i = c.loop-before.invariant in
    let found = c.in-Some.ensures.found in
    record {
      begins = rw c.in_ok-push.ensures.ok (more c.args.header.now c.loop-before.lines c.loop-before.rest.now c.args.bytes.now i.begins c.in-Some.answer c.in-Some.after.now found.0 found.1);
      count = rw c.in_ok-push.ensures.ok (omega (arith, i.count, length-append c.loop-before.lines (c.in-Some.answer ∷ [])));
    }

pub fault_after-requires-then-not-is_empty : goal.fault_after-requires-then-not-is_empty
fault_after-requires-then-not-is_empty c =
    let i = c.loop-before.invariant in
    omega (arith, i.count, few c.args.header.now c.loop-before.lines c.loop-before.rest.now c.args.bytes.now i.begins, c.requires.size)

pub returns-then-not-is_empty-clause-fault : goal.returns-then-not-is_empty-clause-fault
returns-then-not-is_empty-clause-fault c =
    let i = c.loop-before.invariant in
    rw c.fault_after-then-not-is_empty.ensures
    (goes_on_here c.args.header.now c.loop-before.lines c.loop-before.rest.now c.args.bytes.now i.begins c.samples-count.result (omega (arith, i.count, c.loop-before.auto.before-end, c.loop-before-test.false))
    c.samples-count.ensures c.if-not-is_empty.ensures)
