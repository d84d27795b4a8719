use Rattle.lc_sample.proofs.NormalLemmas.{smooth_is}
use Rattle.lc_sample.proofs.normal.smooth.Goals as goal

pub returns-clause-value : goal.returns-clause-value
returns-clause-value c =
    smooth_is c.args.ray c.args.t.now c.args.seen c.args.normals.now c.moved.result c.weights_of-weights.result c.blended.result c.scaled-normal.result c.turned.result
    c.moved.ensures c.weights_of-weights.ensures.value c.blended.ensures.value c.scaled-normal.ensures.value c.turned.ensures.value
