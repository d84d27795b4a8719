use Rattle.std.proofs.Common.{rules, FitsSigned}
use Rattle.std.specs.Int.{w64}
use Rattle.std.proofs.lemmas.Int.{to_z-of_z}
use Rattle.lc_num.specs.Boxes.{cos_top}
use Rattle.lc_num.specs.Crosses.{cos_top2}
use Rattle.lc_num.proofs.CrossCode.{neither}
use Rattle.lc_num.proofs.CrossLaw.{cos16_below_cos_top2, cos_top2-below}
use Rattle.lc_num.proofs.crosses.cos_top2.Goals as goal

pub returns-then-along-le0-clause-value : goal.returns-then-along-le0-clause-value
unfolding cos_top2 cos_top
returns-then-along-le0-clause-value c =
    let f : FitsSigned w64 c.greatest_dot-along.result = search rules in
    neither c.greatest_dot-along.result _ _ _ f c.greatest_dot-along.ensures.value c.if-along-le0.true

pub returns-then-along-le0-clause-bounds : goal.returns-then-along-le0-clause-bounds
returns-then-along-le0-clause-bounds c b inside small =
    rw (returns-then-along-le0-clause-value c) (cos16_below_cos_top2 c.args.n b c.args.span c.args.least inside small)

pub returns-clause-value : goal.returns-clause-value
unfolding cos_top2 cos_top
returns-clause-value c =
    let f : FitsSigned w64 c.greatest_dot-along.result = search rules in
    rw (
      to_z-of_z w64 c.greatest_dot-along.result f,
      c.greatest_dot-along.ensures.value,
      c.short_square.ensures,
      c.least_cross.ensures.value,
    )
    at c.lesser_cosine.ensures.value

pub returns-clause-bounds : goal.returns-clause-bounds
returns-clause-bounds c b inside small =
    rw (returns-clause-value c) (cos16_below_cos_top2 c.args.n b c.args.span c.args.least inside small)

pub returns-clause-lesser : goal.returns-clause-lesser
returns-clause-lesser c = rw (returns-clause-value c) (cos_top2-below c.args.n c.args.span c.args.least)
