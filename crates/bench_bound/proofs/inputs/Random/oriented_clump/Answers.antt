use Rattle.std.proofs.Common.{arith}
use Rattle.lc_bound.specs.HullLaws.{within_more}
use Rattle.bench_bound.proofs.inputs.Random.oriented_clump.Goals as goal

pub oriented_pair-requires-clause-a : goal.oriented_pair-requires-clause-a
oriented_pair-requires-clause-a c = record {
  place = within_more 49_000_000 50_000_000 _ (omega arith) c.vector-place.ensures;
  normal = within_more 15_384 16384 _ (omega arith) (c.difference-normal.ensures.within 0 15_384 (record { x = omega arith; y = omega arith; z = omega arith }) c.vector-turned.ensures);
  power = c.power-power.ensures;
}

pub oriented_pair-requires-clause-b : goal.oriented_pair-requires-clause-b
oriented_pair-requires-clause-b c = record {
  place = c.difference.ensures.within 49_000_000 1_000_000 c.vector-place.ensures c.vector-apart.ensures;
  normal = c.difference-2.ensures.within 15_384 1_000 (c.difference-normal.ensures.within 0 15_384 (record { x = omega arith; y = omega arith; z = omega arith }) c.vector-turned.ensures) c.vector-more.ensures;
  power = c.power-power.ensures;
}
