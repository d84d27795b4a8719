use Rattle.std.proofs.Common.{sym, ◌∙◌}
use Rattle.lc_scan.specs.Decimal.{is_mark}
use Rattle.lc_scan.proofs.DigitLemmas.{place_none, place_some, none_before, none_after, none_any, some_before, some_after, some_any}
use Rattle.lc_scan.proofs.decimals.around_mark.Goals as goal

pub returns-in-None-clause-before : goal.returns-in-None-clause-before
returns-in-None-clause-before c = none_before is_mark c.args.field.now (place_none is_mark c.args.field.now (sym c.first_mark.ensures ∙ c.in-None.is))

pub returns-in-None-clause-after : goal.returns-in-None-clause-after
returns-in-None-clause-after c =
    let p = place_none is_mark c.args.field.now (sym c.first_mark.ensures ∙ c.in-None.is) in
    (none_any is_mark c.args.field.now p, none_after is_mark c.args.field.now p)

pub returns-in-Some-clause-before : goal.returns-in-Some-clause-before
returns-in-Some-clause-before c = some_before is_mark c.args.field.now c.in-Some.at (place_some is_mark c.args.field.now c.in-Some.at (sym c.first_mark.ensures ∙ c.in-Some.is))

pub returns-in-Some-clause-after : goal.returns-in-Some-clause-after
returns-in-Some-clause-after c =
    let p = place_some is_mark c.args.field.now c.in-Some.at (sym c.first_mark.ensures ∙ c.in-Some.is) in
    (some_any is_mark c.args.field.now c.in-Some.at p, some_after is_mark c.args.field.now c.in-Some.at p)
