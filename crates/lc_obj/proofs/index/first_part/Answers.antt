use Rattle.std.proofs.Common.{sym, ◌∙◌}
use Rattle.lc_scan.proofs.DigitLemmas.{place_none, place_some, some_before, some_after}
use Rattle.lc_obj.specs.Corners.{is_slash}
use Rattle.lc_obj.proofs.CornerLemmas.{one_part, two_parts}
use Rattle.lc_obj.proofs.index.first_part.Goals as goal

pub returns-in-None : goal.returns-in-None
returns-in-None c = one_part c.args.text.now (place_none is_slash c.args.text.now (sym c.first_slash.ensures ∙ c.in-None.is))

pub returns-in-Some : goal.returns-in-Some
returns-in-Some c =
    let p = place_some is_slash c.args.text.now c.in-Some.at (sym c.first_slash.ensures ∙ c.in-Some.is) in
    two_parts c.args.text.now _ _ c.in-Some.at p (some_before is_slash c.args.text.now c.in-Some.at p) (some_after is_slash c.args.text.now c.in-Some.at p)
