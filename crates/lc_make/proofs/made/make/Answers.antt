use Rattle.std.proofs.Common.{◌≡◌, subst, sym, rules}
use Rattle.lc_make.specs.Made.{AreShort, made_of}
use Rattle.lc_make.specs.declared.made.Made.{Made}
use Rattle.lc_make.proofs.ShortLemmas.{made_short}
use Rattle.lc_make.proofs.made.make.Goals as goal

pub returns-clause-short : goal.returns-clause-short
unfolding made_of
returns-clause-short c =
    let made : Made = record { job = c.in_ok-job_text.field-0; obj = c.in_ok-obj_text.field-0; mtl = c.in_ok-mtl_text.field-0; lights = c.in_ok-lights_text.field-0 } in
    let same : made ≡ made_of c.args.n = search rules in
    subst AreShort (sym same) (made_short c.args.n c.requires)
