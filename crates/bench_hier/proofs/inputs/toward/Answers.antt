use Rattle.std.proofs.Common.{arith}
use Rattle.lc_geom.proofs.CrossingCode.{within_more}
use Rattle.bench_hier.proofs.inputs.toward.Goals as goal

pub invariant_of-result : goal.invariant_of-result
invariant_of-result c = record {
  beginning = within_more 50_000_016 50_100_000 _ (omega arith) c.requires.p;
  end = within_more 318_435_472 320_000_000 _ (omega arith) (c.difference.ensures.within 50_000_016 268_435_456 c.requires.p c.requires.sun);
}
