use Rattle.std.proofs.Common.{◌+◌, ◌∙◌, ap, subst, arith, flat_map}
use Rattle.std.proofs.lemmas.Result.{err_from_is_err_and}
use Rattle.lc_desk.specs.Calls.{Made}
use Rattle.lc_desk.specs.declared.desk.Slot.TheVariants.{Picture, Bounds}
use Rattle.lc_desk.proofs.CallLemmas.{open_made}
use Rattle.lc_view.specs.Samples.{flat}
use Rattle.lc_frame.specs.Frames.{answers_of, evals_of, row_calls, samples}
use Rattle.lc_frame.specs.Parts.{row_answers, with_more}
use Rattle.lc_frame.proofs.RowLemmas.{calls_more, evals_then, picture_broke, samples-flat, summary_then, whole_picture}
use Rattle.lc_frame.proofs.StartLemmas.{fresh}
use Rattle.lc_frame.proofs.render.render_all.Goals as goal

pub render_row-requires-clause-picture : goal.render_row-requires-clause-picture
render_row-requires-clause-picture g c = open_made _ Picture _ _ c.loop-row.invariant.made c.requires.picture

pub render_row-requires-clause-bounds : goal.render_row-requires-clause-bounds
render_row-requires-clause-bounds g c = open_made _ Bounds _ _ c.loop-row.invariant.made c.requires.bounds

pub loop-row-preserved : goal.loop-row-preserved
loop-row-preserved g c = record {
  made = calls_more (row_answers c.args.job.now c.args.scene.now) (row_calls c.args.job.now.white) c.loop-row.row _ _ _ c.loop-row.invariant.made c.in_ok-render_row.ensures.made;
  space = omega (arith, c.in_ok-render_row.ensures.space, c.loop-row.invariant.space);
  bench = c.in_ok-render_row.ensures.bench ∙ c.loop-row.invariant.bench;
  summary = summary_then (row_answers c.args.job.now c.args.scene.now) flat c.loop-row.row _ c.loop-row.summary c.render_row.new.summary c.loop-row.invariant.summary c.in_ok-render_row.ensures.summary;
  few = omega (arith, c.in_ok-render_row.ensures.few, c.loop-row.invariant.few);
  sizes = c.in_ok-render_row.ensures.sizes;
  steps = evals_then (row_answers c.args.job.now c.args.scene.now) flat c.loop-row.row c.args.steps.now c.loop-row.steps c.render_row.new.steps c.loop-row.invariant.steps c.in_ok-render_row.ensures.steps;
}

pub returns-clause-made : goal.returns-clause-made
returns-clause-made g c =
    subst (λ l. Made (flat_map (row_calls c.args.job.now.white) l) (g.D.Desk.state c.args.desk.now) (g.D.Desk.state c.loop-row.desk))
    (whole_picture c.args.job.now c.args.scene.now c.loop-row.row c.loop-row.auto.row-end c.loop-row-test.false) c.loop-row.invariant.made

pub returns-clause-summary : goal.returns-clause-summary
returns-clause-summary g c =
    c.loop-row.invariant.summary ∙ ap (λ l. with_more (flat_map flat l) c.new-summary.result) (whole_picture c.args.job.now c.args.scene.now c.loop-row.row c.loop-row.auto.row-end c.loop-row-test.false)
    ∙ ap (λ l. with_more l c.new-summary.result) (samples-flat (answers_of c.args.job.now c.args.scene.now))
    ∙ fresh (samples (answers_of c.args.job.now c.args.scene.now)) c.new-summary.result c.new-summary.ensures

pub returns-clause-steps : goal.returns-clause-steps
returns-clause-steps g c =
    c.loop-row.invariant.steps ∙ ap (λ l. c.args.steps.now + evals_of (flat_map flat l)) (whole_picture c.args.job.now c.args.scene.now c.loop-row.row c.loop-row.auto.row-end c.loop-row-test.false)
    ∙ ap (λ l. c.args.steps.now + evals_of l) (samples-flat (answers_of c.args.job.now c.args.scene.now))

pub returns-in_err-render_row-clause-broke : goal.returns-in_err-render_row-clause-broke
returns-in_err-render_row-clause-broke g c =
    let p = err_from_is_err_and c.from_residual.result c.from_residual.ensures.1 in
    rw (p.1, p.2) (picture_broke c.args.job.now c.args.scene.now c.loop-row.row _ _ _ _ c.loop-row-test.true c.loop-row.invariant.made c.in_err-render_row.ensures.broke)
