use Rattle.std.proofs.Common.{arith}
use Rattle.lc_geom.proofs.CrossingCode.{within_more}
use Rattle.bench_geom.proofs.Reach.{moved_within, origin_within}
use Rattle.bench_geom.proofs.inputs.Random.ray.Goals as goal

pub other-triangle-requires-clause-near : goal.other-triangle-requires-clause-near
other-triangle-requires-clause-near c =
    within_more 66_400 500_000 _ (omega arith) (c.difference.ensures.within 50_016 16384 c.spot-spot.result.place c.direction-back.ensures)

pub invariant_of-result : goal.invariant_of-result
invariant_of-result c = record {
  beginning = within_more 50_016 50_100_000 _ (omega arith) c.spot-spot.result.place;
  end = moved_within _ _ c.spot-spot.result.place (c.difference-2.ensures.within 0 268_435_456 origin_within c.far.ensures);
  valid = c.other-triangle.ensures;
}
