use Rattle.std.proofs.Common.{rules, FitsSigned}
use Rattle.std.specs.Int.{w64}
use Rattle.std.proofs.lemmas.Int.{to_z-of_z}
use Rattle.lc_num.specs.Boxes.{cos_top}
use Rattle.lc_num.proofs.CosineLaw.{cos16_below_cos_top}
use Rattle.lc_num.proofs.boxes.cos_top.Goals as goal

pub returns-clause-value : goal.returns-clause-value
unfolding cos_top
returns-clause-value c =
    let f : FitsSigned w64 c.greatest_dot.result = search rules in
    rw (to_z-of_z w64 c.greatest_dot.result f, c.greatest_dot.ensures.value, c.short_square.ensures) at c.cosine_at_most.ensures.value

pub returns-clause-bounds : goal.returns-clause-bounds
returns-clause-bounds c b inside small = rw (returns-clause-value c) (cos16_below_cos_top c.args.n b c.args.span c.args.least inside small)
