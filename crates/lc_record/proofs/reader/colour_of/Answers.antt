use Rattle.std.proofs.Common.{arith, ◌++◌}
use Rattle.lc_record.specs.Pieces.{ended}
use Rattle.lc_record.proofs.Pieces.{g_same, r_same}
use Rattle.lc_record.proofs.reader.colour_of.Goals as goal

pub returns-in_err-g-clause-none : goal.returns-in_err-g-clause-none
returns-in_err-g-clause-none c = rw c.from_residual-in_err-g.ensures (λ (a, after, valid, e).
    let r = r_same c.args.end a after c.requires valid c.in_ok-r.r c.in_ok-r.rest.now c.args.bytes.now c.in_ok-r.ensures.found e in
    c.in_err-g.ensures.none (a.g, ended c.args.end a.b ++ after, (omega arith, valid.g), r.1))

pub returns-in_err-b-clause-none : goal.returns-in_err-b-clause-none
returns-in_err-b-clause-none c = rw c.from_residual-in_err-b.ensures (λ (a, after, valid, e).
    let r = r_same c.args.end a after c.requires valid c.in_ok-r.r c.in_ok-r.rest.now c.args.bytes.now c.in_ok-r.ensures.found e in
    let g = g_same c.args.end a after c.requires valid c.in_ok-g.g c.in_ok-g.rest.now c.in_ok-r.rest.now c.in_ok-g.ensures.found r.1 in
    c.in_err-b.ensures.none (a.b, after, (omega arith, valid.b), g.1))
