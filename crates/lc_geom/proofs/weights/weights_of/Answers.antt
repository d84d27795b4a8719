use Rattle.std.proofs.Common.{arith}
use Rattle.lc_geom.proofs.CrossingCode.{size_read}
use Rattle.lc_geom.proofs.CrossingPoint.{weights_some}
use Rattle.lc_geom.proofs.weights.weights_of.Goals as goal

pub returns-clause-some : goal.returns-clause-some
returns-clause-some c =
    let v = c.three_volumes-ab.ensures in
    rw (
      size_read c.unsigned_abs.result c.three_volumes-ab.result.1 _ (omega (arith, v.most_second)) c.unsigned_abs.ensures.value v.second,
      size_read c.unsigned_abs-2.result c.three_volumes-ab.result.2 _ v.most_third c.unsigned_abs-2.ensures.value v.third,
      size_read c.unsigned_abs-3.result c.three_volumes-ab.result.0 _ (omega (arith, v.most_first)) c.unsigned_abs-3.ensures.value v.first,
    )
    (weights_some c.args.p c.args.q c.args.t.now c.requires.crosses)
