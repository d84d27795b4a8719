use Rattle.std.proofs.Common.{[], ◌∷◌}
use Rattle.std.proofs.lemmas.Result.{err_from_is_err_and, on_ok_weaker, MatchResult-weaker}
use Rattle.lc_desk.specs.Calls.{begin, put}
use Rattle.lc_desk.proofs.CallLemmas.{made_then, open_made}
use Rattle.lc_frame.proofs.LoopLemmas.{frame_after, frame_before}
use Rattle.lc_frame.proofs.render.start.Goals as goal

pub put-requires : goal.put-requires
put-requires g c = c.in_ok-begin.ensures.open

pub returns-clause-made : goal.returns-clause-made
returns-clause-made g c =
    on_ok_weaker c.put.result (made_then (begin c.args.slot c.args.name.now ∷ []) (put c.args.slot c.args.header.now ∷ []) _ _ _ c.in_ok-begin.ensures.made) c.put.ensures.made

pub returns-clause-open : goal.returns-clause-open
returns-clause-open g c =
    on_ok_weaker c.put.result (λ made. open_made (put c.args.slot c.args.header.now ∷ []) c.args.slot _ _ made c.in_ok-begin.ensures.open) c.put.ensures.made

pub returns-clause-broke : goal.returns-clause-broke
returns-clause-broke g c =
    MatchResult-weaker c.put.result c.put.ensures.broke (λ x t. t)
    (λ stop. frame_after stop (begin c.args.slot c.args.name.now ∷ []) (put c.args.slot c.args.header.now ∷ []) _ _ _ c.in_ok-begin.ensures.made)

pub returns-in_err-begin-clause-broke : goal.returns-in_err-begin-clause-broke
returns-in_err-begin-clause-broke g c =
    let p = err_from_is_err_and c.from_residual.result c.from_residual.ensures.1 in
    rw (p.1, p.2) (frame_before _ (begin c.args.slot c.args.name.now ∷ []) (put c.args.slot c.args.header.now ∷ []) _ _ c.in_err-begin.ensures.broke)
