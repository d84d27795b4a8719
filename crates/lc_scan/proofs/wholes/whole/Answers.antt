use Rattle.std.proofs.Common.{sym, ◌∙◌}
use Rattle.lc_scan.proofs.WholeLemmas.{whole_of-numeral, form_no_numeral, no_numeral_form}
use Rattle.lc_scan.proofs.wholes.whole.Goals as goal

pub returns-clause-numeral : goal.returns-clause-numeral
returns-clause-numeral c = λ n. c.number_of.ensures ∙ whole_of-numeral c.args.field.now n

pub returns-clause-form : goal.returns-clause-form
returns-clause-form c =
    (λ form n. form_no_numeral c.args.field.now (sym c.number_of.ensures ∙ form) n, λ none. c.number_of.ensures ∙ no_numeral_form c.args.field.now none)
