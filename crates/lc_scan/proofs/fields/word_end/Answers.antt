use Rattle.std.proofs.Common.{length, sym, ◌∙◌, arith}
use Rattle.lc_scan.specs.Fields.{spaced}
use Rattle.lc_scan.proofs.FieldLemmas.{length-spaced, word_ends}
use Rattle.lc_scan.proofs.fields.word_end.Goals as goal

pub returns-then-is_gap-clause-end : goal.returns-then-is_gap-clause-end
returns-then-is_gap-clause-end c =
    let long = length-spaced c.args.line.now in
    word_ends (spaced c.args.line.now) c.args.at c.loop-end.end (omega arith) (omega arith) c.loop-end.invariant (λ _. sym c.is_gap.ensures ∙ c.if-is_gap.true)

pub returns-clause-end : goal.returns-clause-end
returns-clause-end c =
    let long = length-spaced c.args.line.now in
    word_ends (spaced c.args.line.now) c.args.at (length c.args.line.now) c.requires (omega arith) (λ k low high. c.loop-end.invariant k low (omega arith)) (λ lt. absurd (omega arith))
