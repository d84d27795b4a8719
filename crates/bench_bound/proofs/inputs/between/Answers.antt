use Rattle.lc_num.proofs.SquareLemmas.{square_bound}
use Rattle.bench_bound.proofs.inputs.between.Goals as goal

pub invariant_of-result : goal.invariant_of-result
invariant_of-result c =
    let n = rw (← c.normals.view_is) at c.requires.normals in
    let d = rw (← c.offsets.view_is) at c.requires.offsets in
    record {
      normals_within = c.requires.normals;
      least_n_small = rw c.short_square.ensures (square_bound 16384 c.normals.inside.lo n.lo);
      offsets_within = c.requires.offsets;
      least_d_small = rw c.short_square-2.ensures (square_bound 100_100_000 c.offsets.inside.lo d.lo);
    }
