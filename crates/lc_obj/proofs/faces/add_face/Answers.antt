use Rattle.std.proofs.Common.{arith}
use Rattle.std.proofs.lemmas.Result.{err_from_is_err_and}
use Rattle.lc_obj.proofs.FanLemmas.{wrong_corner, stops_at_corner, too_few_corners, face_passes, no_room_for_face}
use Rattle.lc_obj.proofs.faces.add_face.Goals as goal

pub returns-then-value_count-lt3-clause-fault : goal.returns-then-value_count-lt3-clause-fault
returns-then-value_count-lt3-clause-fault c = too_few_corners c.args.given.now c.args.so_far c.args.values.now (omega arith)

pub returns-in_err-test_corners-clause-fault : goal.returns-in_err-test_corners-clause-fault
returns-in_err-test_corners-clause-fault c =
    let p = err_from_is_err_and c.from_residual.result c.from_residual.ensures.1 in
    rw (p.1, p.2) (wrong_corner c.args.given.now c.args.so_far c.args.values.now _ (omega arith) c.in_err-test_corners.ensures)

pub returns-then-triangles-so_far-clause-fault : goal.returns-then-triangles-so_far-clause-fault
returns-then-triangles-so_far-clause-fault c =
    no_room_for_face c.args.given.now c.args.so_far c.args.values.now (omega arith) c.in_ok-test_corners.ensures (omega arith)

pub returns-in_err-add_fan-clause-fault : goal.returns-in_err-add_fan-clause-fault
returns-in_err-add_fan-clause-fault c =
    let p = err_from_is_err_and c.from_residual-in_err-add_fan.result c.from_residual-in_err-add_fan.ensures.1 in
    rw (p.1, p.2) (stops_at_corner c.args.given.now c.args.so_far c.args.values.now _ (omega arith) c.in_err-add_fan.ensures.fault)

pub returns-clause-ok : goal.returns-clause-ok
returns-clause-ok c = (
  face_passes c.args.given.now c.args.so_far c.args.values.now (omega arith) c.in_ok-add_fan.ensures.ok.0 (omega arith),
  c.in_ok-add_fan.ensures.ok.1,
)
