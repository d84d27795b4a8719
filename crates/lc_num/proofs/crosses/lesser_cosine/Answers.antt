use Rattle.std.proofs.Common.{rules, FitsSigned, ◌∙◌}
use Rattle.std.specs.Int.{w64}
use Rattle.std.proofs.lemmas.Int.{to_z-of_z}
use Rattle.lc_num.proofs.CrossLaw.{lesser_cosine_is}
use Rattle.lc_num.proofs.crosses.lesser_cosine.Goals as goal

pub returns-clause-value : goal.returns-clause-value
returns-clause-value c =
    let f : FitsSigned w64 c.args.along = search rules in
    let is = to_z-of_z w64 c.args.along f in
    let own = rw is at c.unsigned_abs-own.ensures.value in
    rw (is, c.max.ensures, own) at c.cosine_at_most.ensures.value ∙ lesser_cosine_is c.args.along c.args.squares _
