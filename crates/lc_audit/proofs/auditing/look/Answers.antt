use Rattle.std.proofs.Common.{◌*◌, length, ap, arith}
use Rattle.lc_audit.proofs.SampleLemmas.{count_small, looked-get, line_get}
use Rattle.lc_audit.proofs.Strides.{ceil_below}
use Rattle.lc_audit.proofs.auditing.look.Goals as goal

pub overflow_mul-number : goal.overflow_mul-number
overflow_mul-number c =
    let below = ceil_below c.args.turn (length c.args.kept.now.lines) c.args.step c.requires.step c.requires.turn in
    omega (arith, below, c.requires.whole, count_small c.args.job.now.camera c.requires.job.camera)

pub ray_of_sample-requires-clause-sample : goal.ray_of_sample-requires-clause-sample
ray_of_sample-requires-clause-sample c =
    let below = ceil_below c.args.turn (length c.args.kept.now.lines) c.args.step c.requires.step c.requires.turn in
    omega (arith, below, c.requires.whole)

pub bounds-as_slice-number : goal.bounds-as_slice-number
bounds-as_slice-number c =
    let below = ceil_below c.args.turn (length c.args.kept.now.lines) c.args.step c.requires.step c.requires.turn in
    omega (arith, below, ap length c.as_slice.ensures)

pub returns-clause-value : goal.returns-clause-value
returns-clause-value c =
    looked-get c.args.scene.now c.args.job.now c.args.kept.now.lines c.args.step c.requires.step c.requires.whole
    c.args.turn c.ray_of_sample.result c.plain_sample.result _ c.requires.turn
    c.ray_of_sample.ensures.value c.plain_sample.ensures.value
    (line_get c.as_slice.result.now c.args.kept.now.lines (c.args.turn * c.args.step) _ c.as_slice.ensures
    (ceil_below c.args.turn (length c.args.kept.now.lines) c.args.step c.requires.step c.requires.turn))
