use Rattle.std.proofs.Common.{length, sym, ◌∙◌, arith}
use Rattle.std.proofs.lemmas.List.Sums.{prefix_len_is}
use Rattle.lc_scan.specs.Fields.{is_blank}
use Rattle.lc_scan.proofs.fields.leading_blanks.Goals as goal

pub returns-then-not-is_blank-clause-value : goal.returns-then-not-is_blank-clause-value
returns-then-not-is_blank-clause-value c = sym (prefix_len_is is_blank c.args.bytes.now c.loop-at.at 0 (omega arith) c.loop-at.invariant (λ _. sym c.is_blank.ensures ∙ c.if-not-is_blank.true))

pub returns-clause-value : goal.returns-clause-value
returns-clause-value c =
    sym (prefix_len_is is_blank c.args.bytes.now (length c.args.bytes.now) 0 (omega arith) (λ k lt. c.loop-at.invariant k (omega arith)) (λ lt. absurd (omega arith)))
