use Rattle.std.proofs.Common.{◌+◌, ◌∙◌, ◌++◌, ap, sym, subst, arith, flat_map}
use Rattle.std.proofs.lemmas.Result.{err_from_is_err_and}
use Rattle.lc_desk.specs.Calls.{Made}
use Rattle.lc_desk.specs.declared.desk.Slot.TheVariants.{Bounds}
use Rattle.lc_desk.proofs.CallLemmas.{open_made}
use Rattle.lc_tone.specs.Picture.{pixel_bytes}
use Rattle.lc_view.specs.Samples.{flat}
use Rattle.lc_frame.specs.Frames.{estimates, evals_of, lines_of, row_bytes}
use Rattle.lc_frame.specs.Parts.{pixel_answers, with_more}
use Rattle.lc_frame.proofs.RowLemmas.{calls_more, evals_then, flat-more, row_broke, summary_then, whole_row}
use Rattle.lc_frame.proofs.row.render_pixels.Goals as goal

pub render_pixel-requires-clause-begun : goal.render_pixel-requires-clause-begun
render_pixel-requires-clause-begun g c = open_made _ Bounds _ _ c.loop-col.invariant.made c.requires.bounds

pub loop-col-preserved : goal.loop-col-preserved
loop-col-preserved g c =
    record {
      made = calls_more (pixel_answers c.args.job.now c.args.scene.now c.args.row) lines_of c.loop-col.col _ _ _ c.loop-col.invariant.made c.in_ok-render_pixel.ensures.made;
      bytes = c.in_ok-render_pixel.ensures.bytes ∙ ap (λ l. l ++ pixel_bytes c.args.job.now.white (estimates (pixel_answers c.args.job.now c.args.scene.now c.args.row c.loop-col.col))) c.loop-col.invariant.bytes ∙ sym (flat-more (pixel_answers c.args.job.now c.args.scene.now c.args.row) (λ pixel. pixel_bytes c.args.job.now.white (estimates pixel)) c.loop-col.col);
      len = omega (arith, c.in_ok-render_pixel.ensures.len, c.loop-col.invariant.len);
      space = omega (arith, c.in_ok-render_pixel.ensures.space, c.loop-col.invariant.space);
      bench = c.in_ok-render_pixel.ensures.bench ∙ c.loop-col.invariant.bench;
      summary = summary_then (pixel_answers c.args.job.now c.args.scene.now c.args.row) (λ pixel. pixel) c.loop-col.col c.args.summary.now c.loop-col.summary c.render_pixel.new.summary c.loop-col.invariant.summary c.in_ok-render_pixel.ensures.summary;
      few = omega (arith, c.in_ok-render_pixel.ensures.few, c.loop-col.invariant.few);
      sizes = c.in_ok-render_pixel.ensures.sizes;
      steps = evals_then (pixel_answers c.args.job.now c.args.scene.now c.args.row) (λ pixel. pixel) c.loop-col.col c.args.steps.now c.loop-col.steps c.render_pixel.new.steps c.loop-col.invariant.steps c.in_ok-render_pixel.ensures.steps;
    }

pub returns-clause-made : goal.returns-clause-made
returns-clause-made g c = subst (λ l. Made (flat_map lines_of l) (g.D.Desk.state c.args.desk.now) (g.D.Desk.state c.loop-col.desk)) (whole_row c.args.job.now c.args.scene.now c.args.row c.loop-col.col c.loop-col.auto.col-end c.loop-col-test.false) c.loop-col.invariant.made

pub returns-clause-bytes : goal.returns-clause-bytes
returns-clause-bytes g c = c.loop-col.invariant.bytes ∙ ap (row_bytes c.args.job.now.white) (whole_row c.args.job.now c.args.scene.now c.args.row c.loop-col.col c.loop-col.auto.col-end c.loop-col-test.false)

pub returns-clause-summary : goal.returns-clause-summary
returns-clause-summary g c = c.loop-col.invariant.summary ∙ ap (λ l. with_more (flat l) c.args.summary.now) (whole_row c.args.job.now c.args.scene.now c.args.row c.loop-col.col c.loop-col.auto.col-end c.loop-col-test.false)

pub returns-clause-steps : goal.returns-clause-steps
returns-clause-steps g c = c.loop-col.invariant.steps ∙ ap (λ l. c.args.steps.now + evals_of (flat l)) (whole_row c.args.job.now c.args.scene.now c.args.row c.loop-col.col c.loop-col.auto.col-end c.loop-col-test.false)

pub returns-in_err-render_pixel-clause-broke : goal.returns-in_err-render_pixel-clause-broke
returns-in_err-render_pixel-clause-broke g c =
    let p = err_from_is_err_and c.from_residual.result c.from_residual.ensures.1 in
    rw (p.1, p.2) (row_broke c.args.job.now c.args.scene.now c.args.row c.loop-col.col _ _ _ _ c.loop-col-test.true c.loop-col.invariant.made c.in_err-render_pixel.ensures.broke)
