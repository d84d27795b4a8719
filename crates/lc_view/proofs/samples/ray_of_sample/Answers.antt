use Rattle.std.proofs.Common.{arith}
use Rattle.lc_view.proofs.SampleLemmas.{ray_is, row_below}
use Rattle.lc_view.proofs.samples.ray_of_sample.Goals as goal

pub overflow_cast-pixel : goal.overflow_cast-pixel
overflow_cast-pixel c =
    let below = row_below c.args.camera.now c.args.sample c.from-each.result c.from-width.result c.from-each.ensures c.from-width.ensures c.requires.sample in
    omega (arith, below, c.requires.camera.height)

pub returns-clause-value : goal.returns-clause-value
returns-clause-value c =
    ray_is c.args.camera.now c.args.sample c.from-each.result c.from-width.result c.ray_in_pixel.result c.from-each.ensures c.from-width.ensures c.requires.sample
    c.ray_in_pixel.ensures.value
