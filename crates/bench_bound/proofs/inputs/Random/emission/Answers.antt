use Rattle.std.proofs.Common.{arith}
use Rattle.lc_bound.specs.HullLaws.{within_more}
use Rattle.bench_bound.proofs.inputs.Random.emission.Goals as goal

pub between-requires-clause-normals : goal.between-requires-clause-normals
between-requires-clause-normals c =
    c.around.ensures 16384
    (within_more 15_384 16384 _ (omega arith) c.vector-normal.ensures)
    (c.difference.ensures.within 15_384 1_000 c.vector-normal.ensures c.vector-turned.ensures)

pub between-requires-clause-offsets : goal.between-requires-clause-offsets
between-requires-clause-offsets c =
    c.around-2.ensures 100_100_000
    (within_more 99_100_000 100_100_000 _ (omega arith) c.vector-offset.ensures)
    (c.difference-2.ensures.within 99_100_000 1_000_000 c.vector-offset.ensures c.vector-apart.ensures)
