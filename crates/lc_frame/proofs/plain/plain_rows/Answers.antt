use Rattle.std.proofs.Common.{◌∙◌}
use Rattle.std.proofs.lemmas.Result.{err_from_is_err_and, on_ok_weaker, MatchResult-weaker}
use Rattle.lc_frame.specs.PlainFrames.{plain_lights}
use Rattle.lc_frame.proofs.PlainLemmas.{plain_made, plain_stopped_rows, plain_stopped_start}
use Rattle.lc_frame.proofs.plain.plain_rows.Goals as goal

pub returns-clause-made : goal.returns-clause-made
returns-clause-made g c =
    on_ok_weaker c.plain_all.result
    (plain_made c.args.job.now (plain_lights c.args.job.now c.args.scene.now) _ _ c.as_str.ensures (c.as_slice.ensures ∙ c.in_ok-head.ensures) _ _ _ c.in_ok-start.ensures.made)
    c.plain_all.ensures.made

pub returns-clause-stopped : goal.returns-clause-stopped
returns-clause-stopped g c =
    MatchResult-weaker c.plain_all.result c.plain_all.ensures.broke (λ x t. t)
    (λ stop. plain_stopped_rows c.args.job.now (plain_lights c.args.job.now c.args.scene.now) _ _ c.as_str.ensures (c.as_slice.ensures ∙ c.in_ok-head.ensures) stop _ _ _ c.in_ok-start.ensures.made)

pub returns-in_err-start-clause-stopped : goal.returns-in_err-start-clause-stopped
returns-in_err-start-clause-stopped g c =
    let p = err_from_is_err_and c.from_residual-in_err-start.result c.from_residual-in_err-start.ensures.1 in
    rw (p.1, p.2) (plain_stopped_start c.args.job.now (plain_lights c.args.job.now c.args.scene.now) _ _ c.as_str.ensures (c.as_slice.ensures ∙ c.in_ok-head.ensures) _ _ _ c.in_err-start.ensures.broke)
