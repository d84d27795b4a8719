use Rattle.std.proofs.Common.{◌∙◌}
use Rattle.std.proofs.lemmas.Result.{err_from_is_err_and, on_ok_weaker, MatchResult-weaker}
use Rattle.lc_map.proofs.Written.{map_made, map_stopped_rows, map_stopped_start}
use Rattle.lc_map.proofs.rows.map_rows.Goals as goal

pub returns-clause-made : goal.returns-clause-made
returns-clause-made g c =
    on_ok_weaker c.map_all.result
    (map_made c.args.kind c.args.kept.now c.args.name.now _ (c.as_slice.ensures ∙ c.in_ok-head.ensures) _ _ _ c.in_ok-start.ensures.made)
    c.map_all.ensures.made

pub returns-clause-stopped : goal.returns-clause-stopped
returns-clause-stopped g c =
    MatchResult-weaker c.map_all.result c.map_all.ensures.broke (λ x t. t)
    (λ stop. map_stopped_rows c.args.kind c.args.kept.now c.args.name.now _ (c.as_slice.ensures ∙ c.in_ok-head.ensures) stop _ _ _ c.in_ok-start.ensures.made)

pub returns-in_err-start-clause-stopped : goal.returns-in_err-start-clause-stopped
returns-in_err-start-clause-stopped g c =
    let p = err_from_is_err_and c.from_residual-in_err-start.result c.from_residual-in_err-start.ensures.1 in
    rw (p.1, p.2) (map_stopped_start c.args.kind c.args.kept.now c.args.name.now _ (c.as_slice.ensures ∙ c.in_ok-head.ensures) _ _ _ c.in_err-start.ensures.broke)
