use Rattle.std.proofs.Common.{◌∙◌}
use Rattle.std.proofs.lemmas.Result.{err_from_is_err_and}
use Rattle.lc_obj.proofs.FanLemmas.{corner_passed, corner_wrong, no_corners}
use Rattle.lc_obj.proofs.faces.test_corners.Goals as goal

pub loop-value-preserved : goal.loop-value-preserved
loop-value-preserved c =
    c.loop-value.invariant ∙ corner_passed c.args.given.now c.loop-value.values c.next_field.new.self c.in-Some.value.now c.in-Some.ensures c.in_ok-corner_in.ensures.0

pub returns-in_err-corner_in : goal.returns-in_err-corner_in
returns-in_err-corner_in c =
    let p = err_from_is_err_and c.from_residual.result c.from_residual.ensures.1 in
    rw (p.1, p.2) (c.loop-value.invariant ∙ corner_wrong c.args.given.now c.loop-value.values c.next_field.new.self c.in-Some.value.now _ c.in-Some.ensures c.in_err-corner_in.ensures)

pub returns : goal.returns
returns c = c.loop-value.invariant ∙ no_corners c.args.given.now c.loop-value.values c.in_default.ensures.0
