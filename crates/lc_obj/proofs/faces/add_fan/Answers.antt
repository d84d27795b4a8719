use Rattle.std.proofs.Common.{◌<◌, length, arith, ◌∙◌, ap, length-drop}
use Rattle.std.proofs.lemmas.Result.{err_from_is_err_and}
use Rattle.lc_scan.specs.Fields.{field_at}
use Rattle.lc_obj.proofs.CornerLemmas.{corner_valid}
use Rattle.lc_obj.proofs.FanLemmas.{corner_passed, corner_wrong, first_of, start, next_corner, ends, face_in_range}
use Rattle.lc_obj.proofs.faces.add_fan.Goals as goal

pub returns-in_err-first-clause-fault : goal.returns-in_err-first-clause-fault
returns-in_err-first-clause-fault c =
    let p = err_from_is_err_and c.from_residual.result c.from_residual.ensures.1 in
    let vs = c.args.values.now in
    rw (p.1, p.2) (corner_wrong c.args.given.now vs c.corner.new.values (field_at 0 vs) _ (first_of vs c.corner.new.values (omega arith) c.in_err-first.ensures.rest) c.in_err-first.ensures.value)

pub returns-in_err-previous-clause-fault : goal.returns-in_err-previous-clause-fault
returns-in_err-previous-clause-fault c =
    let p = err_from_is_err_and c.from_residual-in_err-previous.result c.from_residual-in_err-previous.ensures.1 in
    let vs = c.args.values.now in
    let ws = c.corner.new.values in
    let some : 0 < length ws = omega (arith, ap length c.in_ok-first.ensures.rest, length-drop 1 vs) in
    rw (p.1, p.2)
    (corner_passed c.args.given.now vs ws (field_at 0 vs) (first_of vs ws (omega arith) c.in_ok-first.ensures.rest) c.in_ok-first.ensures.value.0
    ∙ corner_wrong c.args.given.now ws c.corner-2.new.values (field_at 0 ws) _ (first_of ws c.corner-2.new.values some c.in_err-previous.ensures.rest) c.in_err-previous.ensures.value)

pub loop-value-init : goal.loop-value-init
loop-value-init c =
    start c.args.given.now c.args.name c.args.values.now c.corner.new.values c.corner-2.new.values c.args.faces.now c.in_ok-first.first c.in_ok-previous.previous c.requires.given c.requires.corners c.in_ok-first.ensures.rest
    c.in_ok-previous.ensures.rest c.in_ok-first.ensures.value c.in_ok-previous.ensures.value

pub returns-in_err-next-clause-fault : goal.returns-in_err-next-clause-fault
returns-in_err-next-clause-fault c =
    let p = err_from_is_err_and c.from_residual-in_err-next.result c.from_residual-in_err-next.ensures.1 in
    rw (p.1, p.2) (c.loop-value.invariant.tests_are ∙ corner_wrong c.args.given.now c.loop-value.values c.next_field.new.self c.in-Some.value.now _ c.in-Some.ensures c.in_err-next.ensures)

pub add-requires : goal.add-requires
add-requires c =
    let h = c.loop-value.invariant in
    let next = c.in_ok-next.ensures in
    rw c.face.ensures
    (face_in_range c.args.name c.in_ok-first.first c.loop-value.previous c.in_ok-next.next h.first_in_range h.previous_in_range (rw (← next.1) (corner_valid c.args.given.now c.in-Some.value.now c.requires.given next.0).place))

pub loop-value-preserved : goal.loop-value-preserved
loop-value-preserved c =
    next_corner c.args.given.now c.args.name c.args.values.now c.args.faces.now c.in_ok-first.first c.loop-value.previous c.in_ok-next.next c.loop-value.values c.next_field.new.self c.loop-value.faces c.add.new.faces c.in-Some.value.now
    c.requires.given c.in-Some.ensures c.in_ok-next.ensures (rw c.face.ensures at c.in_ok-add.ensures) c.loop-value.invariant

pub returns-clause-ok : goal.returns-clause-ok
returns-clause-ok c =
    ends c.args.given.now c.args.name c.args.values.now c.args.faces.now c.in_ok-first.first c.loop-value.previous c.loop-value.values c.loop-value.faces c.in_default.ensures.0 c.loop-value.invariant
