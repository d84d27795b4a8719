use Rattle.std.proofs.Common.{◌^◌, arith}
use Rattle.lc_geom.proofs.CrossingCode.{within_more}
use Rattle.bench_geom.proofs.Reach.{origin_within}
use Rattle.bench_geom.proofs.inputs.Random.around.Goals as goal

pub difference-requires-4-clause-b : goal.difference-requires-4-clause-b
difference-requires-4-clause-b c =
    let back = c.difference.ensures.within 0 1_900 origin_within c.vector-u.ensures in
    within_more 3_800 (2 ^ 60) _ (omega arith) (c.difference-w.ensures.within 1_900 1_900 back c.vector-v.ensures)

pub returns : goal.returns
returns c =
    let back = c.difference.ensures.within 0 1_900 origin_within c.vector-u.ensures in
    let w = c.difference-w.ensures.within 1_900 1_900 back c.vector-v.ensures in
    record {
      a = within_more 1_001_900 50_000_000 _ (omega arith) (c.difference-2.ensures.within 1_000_000 1_900 c.requires c.vector-u.ensures);
      b = within_more 1_001_900 50_000_000 _ (omega arith) (c.difference-3.ensures.within 1_000_000 1_900 c.requires c.vector-v.ensures);
      c = within_more 1_003_800 50_000_000 _ (omega arith) (c.difference-4.ensures.within 1_000_000 3_800 c.requires w);
    }
