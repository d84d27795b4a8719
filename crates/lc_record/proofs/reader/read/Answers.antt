use Rattle.std.proofs.lemmas.Result.{err_from_is_err_and}
use Rattle.lc_record.proofs.OneReading.{stop_after, text_of}
use Rattle.lc_record.proofs.reader.read.Goals as goal

pub returns-in_err-lines-clause-fault : goal.returns-in_err-lines-clause-fault
returns-in_err-lines-clause-fault c =
    let head = c.in-Some.ensures.found in
    let p = err_from_is_err_and c.from_residual.result c.from_residual.ensures.1 in
    rw (p.1, p.2) (stop_after c.in-Some.header c.in-Some.rest.now c.args.bytes.now head.0 head.1 c.in_err-lines.field-0.0 c.in_err-lines.ensures.fault)

pub returns-clause-ok : goal.returns-clause-ok
returns-clause-ok c =
    let head = c.in-Some.ensures.found in
    let lines = c.in_ok-lines.ensures.ok in
    text_of c.in-Some.header c.in_ok-lines.lines c.in-Some.rest.now c.args.bytes.now head.0 head.1 lines
