use Rattle.std.proofs.lemmas.Result.{err_from_is_err_and, on_ok_weaker, MatchResult-weaker}
use Rattle.lc_frame.specs.Frames.{answers_of}
use Rattle.lc_frame.proofs.StartLemmas.{render_made, stopped_open, stopped_rows}
use Rattle.lc_frame.proofs.render.render_rows.Goals as goal

pub returns-clause-made : goal.returns-clause-made
returns-clause-made g c =
    on_ok_weaker c.render_all.result (render_made c.args.job.now (answers_of c.args.job.now c.args.scene.now) _ _ _ c.in_ok-open.ensures.made) c.render_all.ensures.made

pub returns-clause-stopped : goal.returns-clause-stopped
returns-clause-stopped g c =
    MatchResult-weaker c.render_all.result c.render_all.ensures.broke (λ x t. t)
    (λ stop. stopped_rows c.args.job.now (answers_of c.args.job.now c.args.scene.now) stop _ _ _ c.in_ok-open.ensures.made)

pub returns-in_err-open-clause-stopped : goal.returns-in_err-open-clause-stopped
returns-in_err-open-clause-stopped g c =
    let p = err_from_is_err_and c.from_residual-in_err-open.result c.from_residual-in_err-open.ensures.1 in
    rw (p.1, p.2) (stopped_open c.args.job.now (answers_of c.args.job.now c.args.scene.now) _ _ _ c.in_err-open.ensures.broke)
