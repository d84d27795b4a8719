use Rattle.std.proofs.Common.{Some, List, ℕ, sym, ap, ◌∙◌}
use Rattle.lc_scan.proofs.NameLemmas.{name_in-some, name_in-none}
use Rattle.lc_scan.proofs.names.name_of.Goals as goal

pub returns-in_ok-from_text-in-Ok-clause-value : goal.returns-in_ok-from_text-in-Ok-clause-value
returns-in_ok-from_text-in-Ok-clause-value c =
    ap (λ (bytes : List ℕ). Some bytes) (c.in_ok-from_text-in-Ok.ensures ∙ c.in-Ok.ensures.cases.0) ∙ sym (name_in-some c.args.bytes.now c.in-Ok.ensures.cases.1)

pub returns-in-Err-clause-value : goal.returns-in-Err-clause-value
returns-in-Err-clause-value c = sym (name_in-none c.args.bytes.now c.in-Err.ensures.cases.0)
