use Rattle.std.proofs.Common.{rules, FitsSigned}
use Rattle.std.specs.Int.{w64}
use Rattle.std.proofs.lemmas.Int.{to_z-of_z}
use Rattle.lc_num.specs.Boxes.{emit_top}
use Rattle.lc_num.specs.Crosses.{emit_top2}
use Rattle.lc_num.proofs.CrossCode.{neither}
use Rattle.lc_num.proofs.CrossLaw.{cos16_below_emit_top2, emit_top2-below}
use Rattle.lc_num.proofs.crosses.emit_top2.Goals as goal

pub returns-then-along-le0-clause-value : goal.returns-then-along-le0-clause-value
unfolding emit_top2 emit_top
returns-then-along-le0-clause-value c =
    let f : FitsSigned w64 c.greatest_dot_of_boxes-along.result = search rules in
    neither c.greatest_dot_of_boxes-along.result _ _ _ f c.greatest_dot_of_boxes-along.ensures.value c.if-along-le0.true

pub returns-then-along-le0-clause-bounds : goal.returns-then-along-le0-clause-bounds
returns-then-along-le0-clause-bounds c m d hm hd small_n small_d =
    rw (returns-then-along-le0-clause-value c)
    (cos16_below_emit_top2 m d c.args.normals c.args.least_n c.args.offsets c.args.least_d hm hd small_n small_d)

pub returns-clause-value : goal.returns-clause-value
unfolding emit_top2 emit_top
returns-clause-value c =
    let f : FitsSigned w64 c.greatest_dot_of_boxes-along.result = search rules in
    rw (
      to_z-of_z w64 c.greatest_dot_of_boxes-along.result f,
      c.greatest_dot_of_boxes-along.ensures.value,
      c.least_cross_of_boxes.ensures.value,
    )
    at c.lesser_cosine.ensures.value

pub returns-clause-bounds : goal.returns-clause-bounds
returns-clause-bounds c m d hm hd small_n small_d =
    rw (returns-clause-value c)
    (cos16_below_emit_top2 m d c.args.normals c.args.least_n c.args.offsets c.args.least_d hm hd small_n small_d)

pub returns-clause-lesser : goal.returns-clause-lesser
returns-clause-lesser c =
    rw (returns-clause-value c) (emit_top2-below c.args.normals c.args.least_n c.args.offsets c.args.least_d)
