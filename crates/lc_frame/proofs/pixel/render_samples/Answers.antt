use Rattle.std.proofs.Common.{◌≡◌, ◌+◌, ◌*◌, ◌^◌, ap, sym, ◌∙◌, subst, arith}
use Rattle.std.proofs.lemmas.Result.{err_from_is_err_and}
use Rattle.lc_num.specs.Channels.{IsRgbWithin}
use Rattle.lc_desk.specs.Calls.{Made}
use Rattle.lc_desk.specs.declared.desk.Slot.TheVariants.{Bounds}
use Rattle.lc_desk.proofs.CallLemmas.{open_made}
use Rattle.lc_record.specs.Record.{line_bytes}
use Rattle.lc_sample.specs.Sampled.{sample_of}
use Rattle.lc_frame.specs.Frames.{estimates, evals_of, lines_of}
use Rattle.lc_frame.specs.Parts.{sample_at, sums_of, with_more}
use Rattle.lc_frame.proofs.PixelLemmas.{pixel_broke, pixel_more, few_samples, within_most, within_more, evals_step, sums_step, summary_step, whole}
use Rattle.lc_frame.proofs.pixel.render_samples.Goals as goal

pub put-requires : goal.put-requires
put-requires g c = open_made _ Bounds _ _ c.loop-k.invariant.made c.requires.begun

pub plus-sums-requires-clause-a : goal.plus-sums-requires-clause-a
plus-sums-requires-clause-a g c =
    within_most c.loop-k.k c.loop-k.sums (omega (arith, few_samples c.args.job.now.camera.grid c.requires.job.camera.grid.1)) c.loop-k.invariant.within

pub loop-k-preserved : goal.loop-k-preserved
unfolding sample_at
loop-k-preserved g c =
    let is : c.sample-answer.result ≡ sample_at c.args.job.now c.args.scene.now c.args.row c.args.col c.loop-k.k = c.sample-answer.ensures.value ∙ ap (sample_of c.args.job.now.cut c.args.job.now.permille c.args.job.now.rule c.args.scene.now) c.ray_of-ray.ensures.value in
    let piece = c.as_slice.ensures ∙ c.line_text.ensures.line ∙ ap line_bytes is in
    record {
      made = pixel_more c.args.job.now c.args.scene.now c.args.row c.args.col c.loop-k.k _ piece _ _ _ c.loop-k.invariant.made c.in_ok-put.ensures.made;
      sums = sums_step (sample_at c.args.job.now c.args.scene.now c.args.row c.args.col) c.loop-k.k c.sample-answer.result is c.loop-k.sums c.plus-sums.result c.loop-k.invariant.sums c.plus-sums.ensures;
      within = subst (IsRgbWithin ((c.loop-k.k + 1) * 2 ^ 117)) (sym c.plus-sums.ensures) (within_more c.loop-k.k c.loop-k.sums c.sample-answer.result.est c.loop-k.invariant.within c.sample-answer.ensures.est);
      summary = summary_step (sample_at c.args.job.now c.args.scene.now c.args.row c.args.col) c.loop-k.k c.sample-answer.result is c.args.summary.now c.loop-k.summary c.take.new.self c.loop-k.invariant.summary c.take.ensures.samples c.take.ensures.sizes c.take.ensures.largest;
      samples = omega (arith, c.take.ensures.samples, c.loop-k.invariant.samples);
      sizes = omega (arith, c.take.ensures.samples, c.take.ensures.sizes, c.loop-k.invariant.sizes, c.sample-answer.ensures.size, c.requires.job.cut_most);
      steps = evals_step (sample_at c.args.job.now c.args.scene.now c.args.row c.args.col) c.loop-k.k c.sample-answer.result is c.args.steps.now c.loop-k.steps c.sample-answer.new.steps c.loop-k.invariant.steps c.sample-answer.ensures.steps;
      bench = c.sample-answer.ensures.bench ∙ c.loop-k.invariant.bench;
    }

pub returns-clause-made : goal.returns-clause-made
returns-clause-made g c = subst (λ l. Made (lines_of l) (g.D.Desk.state c.args.desk.now) (g.D.Desk.state c.loop-k.desk)) (whole c.args.job.now c.args.scene.now c.args.row c.args.col c.loop-k.k c.loop-k.auto.k-end c.loop-k-test.false) c.loop-k.invariant.made

pub returns-clause-sums : goal.returns-clause-sums
returns-clause-sums g c = c.loop-k.invariant.sums ∙ ap (λ l. sums_of (estimates l)) (whole c.args.job.now c.args.scene.now c.args.row c.args.col c.loop-k.k c.loop-k.auto.k-end c.loop-k-test.false)

pub returns-clause-within : goal.returns-clause-within
returns-clause-within g c =
    within_most c.loop-k.k c.loop-k.sums (omega (arith, few_samples c.args.job.now.camera.grid c.requires.job.camera.grid.1, c.loop-k.auto.k-end)) c.loop-k.invariant.within

pub returns-clause-summary : goal.returns-clause-summary
returns-clause-summary g c = c.loop-k.invariant.summary ∙ ap (λ l. with_more l c.args.summary.now) (whole c.args.job.now c.args.scene.now c.args.row c.args.col c.loop-k.k c.loop-k.auto.k-end c.loop-k-test.false)

pub returns-clause-steps : goal.returns-clause-steps
returns-clause-steps g c = c.loop-k.invariant.steps ∙ ap (λ l. c.args.steps.now + evals_of l) (whole c.args.job.now c.args.scene.now c.args.row c.args.col c.loop-k.k c.loop-k.auto.k-end c.loop-k-test.false)

pub returns-in_err-put-clause-broke : goal.returns-in_err-put-clause-broke
unfolding sample_at
returns-in_err-put-clause-broke g c =
    let is : c.sample-answer.result ≡ sample_at c.args.job.now c.args.scene.now c.args.row c.args.col c.loop-k.k = c.sample-answer.ensures.value ∙ ap (sample_of c.args.job.now.cut c.args.job.now.permille c.args.job.now.rule c.args.scene.now) c.ray_of-ray.ensures.value in
    let piece = c.as_slice.ensures ∙ c.line_text.ensures.line ∙ ap line_bytes is in
    let p = err_from_is_err_and c.from_residual.result c.from_residual.ensures.1 in
    rw (p.1, p.2) (pixel_broke c.args.job.now c.args.scene.now c.args.row c.args.col c.loop-k.k _ piece _ _ _ _ c.loop-k-test.true c.loop-k.invariant.made c.in_err-put.ensures.broke)
