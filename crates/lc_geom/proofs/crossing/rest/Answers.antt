use Rattle.std.proofs.Common.{arith}
use Rattle.lc_geom.proofs.CrossingCode.{rest_fits, rest_gives, rest_small}
use Rattle.lc_geom.proofs.crossing.rest.Goals as goal

pub overflow_sub-result-3 : goal.overflow_sub-result-3
overflow_sub-result-3 c =
    rest_fits c.args.start c.args.end c.args.u c.args.v (omega (arith, c.requires.start)) (omega (arith, c.requires.end)) (omega (arith, c.requires.u)) (omega (arith, c.requires.v))

pub returns : goal.returns
returns c =
    let value = rest_gives c.args.start c.args.end c.args.u c.args.v (omega (arith, c.requires.start)) (omega (arith, c.requires.end)) (omega (arith, c.requires.u)) (omega (arith, c.requires.v)) in
    record { value = value; most = rw value (rest_small c.args.start c.args.end c.args.u c.args.v c.requires.start c.requires.end c.requires.u c.requires.v) }
