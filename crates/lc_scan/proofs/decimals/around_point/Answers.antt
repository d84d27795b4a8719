use Rattle.std.proofs.Common.{length, sym, ◌∙◌, arith}
use Rattle.std.proofs.lemmas.List.{drop_all, take_rest}
use Rattle.lc_scan.specs.Decimal.{is_point}
use Rattle.lc_scan.proofs.DigitLemmas.{place_none, place_some, none_before, none_after, some_before, some_after}
use Rattle.lc_scan.proofs.decimals.around_point.Goals as goal

pub returns-in-None-clause-before : goal.returns-in-None-clause-before
returns-in-None-clause-before c = none_before is_point c.args.bytes.now (place_none is_point c.args.bytes.now (sym c.first_point.ensures ∙ c.in-None.is))

pub returns-in-None-clause-after : goal.returns-in-None-clause-after
returns-in-None-clause-after c =
    let bytes = c.args.bytes.now in
    take_rest bytes (length bytes) ∙ drop_all (length bytes) bytes (omega arith) ∙ sym (none_after is_point bytes (place_none is_point bytes (sym c.first_point.ensures ∙ c.in-None.is)))

pub returns-in-Some-clause-before : goal.returns-in-Some-clause-before
returns-in-Some-clause-before c = some_before is_point c.args.bytes.now c.in-Some.at (place_some is_point c.args.bytes.now c.in-Some.at (sym c.first_point.ensures ∙ c.in-Some.is))

pub returns-in-Some-clause-after : goal.returns-in-Some-clause-after
returns-in-Some-clause-after c = some_after is_point c.args.bytes.now c.in-Some.at (place_some is_point c.args.bytes.now c.in-Some.at (sym c.first_point.ensures ∙ c.in-Some.is))
