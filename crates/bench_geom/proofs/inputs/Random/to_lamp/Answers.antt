use Rattle.std.proofs.Common.{◌^◌, arith}
use Rattle.lc_geom.proofs.CrossingCode.{within_more}
use Rattle.bench_geom.proofs.inputs.Random.to_lamp.Goals as goal

pub other-triangle-requires-clause-near : goal.other-triangle-requires-clause-near
other-triangle-requires-clause-near c =
    within_more 75_016 500_000 _ (omega arith) (c.difference-halfway.ensures.within 50_016 25_000 c.spot-spot.result.place c.vector-half.ensures)

pub difference-requires-clause-a : goal.difference-requires-clause-a
difference-requires-clause-a c =
    within_more 75_016 (2 ^ 60) _ (omega arith) (c.difference-halfway.ensures.within 50_016 25_000 c.spot-spot.result.place c.vector-half.ensures)

pub invariant_of-result : goal.invariant_of-result
invariant_of-result c = record {
  beginning = within_more 50_016 50_100_000 _ (omega arith) c.spot-spot.result.place;
  end =
      within_more 100_016 320_000_000 _ (omega arith)
      (c.difference.ensures.within 75_016 25_000 (c.difference-halfway.ensures.within 50_016 25_000 c.spot-spot.result.place c.vector-half.ensures) c.vector-half.ensures);
  valid = c.other-triangle.ensures;
}
