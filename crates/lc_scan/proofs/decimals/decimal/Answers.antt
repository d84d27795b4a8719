use Rattle.std.proofs.Common.{sym, ap, ◌∙◌}
use Rattle.lc_scan.specs.Decimal.{decimal_of}
use Rattle.lc_scan.specs.Spelling.{parts}
use Rattle.lc_scan.proofs.DecimalLemmas.{measured-nearest, result_within}
use Rattle.lc_scan.proofs.SpellingLemmas.{decimal_of-spelled, form_not_spelled, form_not_decimal}
use Rattle.lc_scan.proofs.decimals.decimal.Goals as goal

pub returns-clause-spelled : goal.returns-clause-spelled
returns-clause-spelled c = λ s d e. c.units_of.ensures ∙ ap decimal_of e ∙ decimal_of-spelled s d

pub returns-clause-nearest : goal.returns-clause-nearest
returns-clause-nearest c = λ s d e. measured-nearest (parts s) c.units_of.result (c.units_of.ensures ∙ ap decimal_of e ∙ decimal_of-spelled s d)

pub returns-clause-range : goal.returns-clause-range
returns-clause-range c = result_within c.args.field.now c.units_of.result c.units_of.ensures

pub returns-clause-form : goal.returns-clause-form
returns-clause-form c =
    (λ form s d e. form_not_spelled s d (sym (ap decimal_of e) ∙ sym c.units_of.ensures ∙ form), λ none. c.units_of.ensures ∙ form_not_decimal c.args.field.now none)
