use Rattle.std.proofs.Common.{◌≡◌, ◌+◌, ◌*◌, ◌^◌, ap, sym, ◌∙◌, subst, arith}
use Rattle.lc_num.specs.Channels.{IsRgbWithin}
use Rattle.lc_sample.specs.Sampled.{light_of}
use Rattle.lc_frame.specs.Parts.{sum_at, sums_of}
use Rattle.lc_frame.proofs.PixelLemmas.{few_samples, within_more, within_most}
use Rattle.lc_frame.proofs.PlainLemmas.{sample_more, whole_sums}
use Rattle.lc_frame.proofs.plain.plain_sums.Goals as goal

pub plus-sums-requires-clause-a : goal.plus-sums-requires-clause-a
plus-sums-requires-clause-a c =
    within_most c.loop-k.k c.loop-k.sums (omega (arith, few_samples c.args.job.now.camera.grid c.requires.job.camera.grid.1)) c.loop-k.invariant.within

pub loop-k-preserved : goal.loop-k-preserved
unfolding sum_at
loop-k-preserved c =
    let is : c.plain_sample.result ≡ sum_at c.args.job.now c.args.scene.now c.args.row c.args.col c.loop-k.k = c.plain_sample.ensures.value ∙ ap (light_of c.args.scene.now) c.ray_of-ray.ensures.value in
    record {
      sums = sample_more c.args.job.now c.args.scene.now c.args.row c.args.col c.loop-k.k c.loop-k.sums c.plain_sample.result c.plus-sums.result c.loop-k.invariant.sums is c.plus-sums.ensures;
      within = subst (IsRgbWithin ((c.loop-k.k + 1) * 2 ^ 117)) (sym c.plus-sums.ensures) (within_more c.loop-k.k c.loop-k.sums c.plain_sample.result c.loop-k.invariant.within c.plain_sample.ensures.small);
    }

pub returns : goal.returns
returns c = c.loop-k.invariant.sums ∙ ap sums_of (whole_sums c.args.job.now c.args.scene.now c.args.row c.args.col c.loop-k.k c.loop-k.auto.k-end c.loop-k-test.false)
