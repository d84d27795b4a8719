use Rattle.std.proofs.Common.{rules, FitsSigned}
use Rattle.std.specs.Int.{w64}
use Rattle.std.proofs.lemmas.Int.{to_z-of_z}
use Rattle.lc_num.specs.Boxes.{emit_top}
use Rattle.lc_num.proofs.CosineLaw.{cos16_below_emit_top}
use Rattle.lc_num.proofs.boxes.emit_top.Goals as goal

pub returns-clause-value : goal.returns-clause-value
unfolding emit_top
returns-clause-value c =
    let f : FitsSigned w64 c.greatest_dot_of_boxes.result = search rules in
    rw (to_z-of_z w64 c.greatest_dot_of_boxes.result f, c.greatest_dot_of_boxes.ensures.value) at c.cosine_at_most.ensures.value

pub returns-clause-bounds : goal.returns-clause-bounds
returns-clause-bounds c m d hm hd small_n small_d =
    rw (returns-clause-value c) (cos16_below_emit_top m d c.args.normals c.args.least_n c.args.offsets c.args.least_d hm hd small_n small_d)
