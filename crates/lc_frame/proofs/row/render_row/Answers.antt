use Rattle.std.proofs.Common.{◌∙◌}
use Rattle.std.proofs.lemmas.Result.{err_from_is_err_and, on_ok_weaker, MatchResult-weaker}
use Rattle.lc_desk.specs.declared.desk.Slot.TheVariants.{Picture}
use Rattle.lc_desk.proofs.CallLemmas.{open_made}
use Rattle.lc_frame.specs.Parts.{row_answers}
use Rattle.lc_frame.proofs.RowLemmas.{row_lines_broke, row_made, row_pixels_broke}
use Rattle.lc_frame.proofs.row.render_row.Goals as goal

pub put-requires : goal.put-requires
put-requires g c = open_made _ Picture _ _ c.in_ok-render_pixels.ensures.made c.requires.picture

pub returns-clause-made : goal.returns-clause-made
returns-clause-made g c =
    on_ok_weaker c.put.result
    (row_made c.args.job.now.white (row_answers c.args.job.now c.args.scene.now c.args.row) _ _ _ _ (c.deref.ensures.value ∙ c.in_ok-render_pixels.ensures.bytes) c.in_ok-render_pixels.ensures.made)
    c.put.ensures.made

pub returns-clause-broke : goal.returns-clause-broke
returns-clause-broke g c =
    MatchResult-weaker c.put.result c.put.ensures.broke (λ x t. t)
    (λ stop. row_pixels_broke c.args.job.now.white (row_answers c.args.job.now c.args.scene.now c.args.row) stop _ _ _ _ (c.deref.ensures.value ∙ c.in_ok-render_pixels.ensures.bytes) c.in_ok-render_pixels.ensures.made)

pub returns-in_err-render_pixels-clause-broke : goal.returns-in_err-render_pixels-clause-broke
returns-in_err-render_pixels-clause-broke g c =
    let p = err_from_is_err_and c.from_residual.result c.from_residual.ensures.1 in
    rw (p.1, p.2) (row_lines_broke c.args.job.now.white (row_answers c.args.job.now c.args.scene.now c.args.row) _ _ _ c.in_err-render_pixels.ensures.broke)
