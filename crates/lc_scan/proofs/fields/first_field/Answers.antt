use Rattle.std.proofs.Common.{sym, ◌∙◌, arith}
use Rattle.lc_scan.proofs.FieldLemmas.{WordSpan, no_field, first_comment, first_field}
use Rattle.lc_scan.proofs.fields.first_field.Goals as goal
use Rattle.lc_scan.proofs.fields.first_field.Goals.{then-is_empty-via-then-is_empty, then-is_empty-via-else-is_empty+then-is_comment}

pub returns-then-is_empty-clause-first : goal.returns-then-is_empty-clause-first
returns-then-is_empty-clause-first c =
    let cut : WordSpan c.args.line.now c.args.at c.gap_end-start.result c.word_end-end.result = record { start_is = c.gap_end-start.ensures.end; end_is = c.word_end-end.ensures.end } in
    elim c.then-is_empty.branch [
      | then-is_empty-via-then-is_empty w ↦ no_field c.args.line.now c.args.at c.gap_end-start.result c.word_end-end.result cut (grind arith)
      | then-is_empty-via-else-is_empty+then-is_comment w ↦ first_comment c.args.line.now c.args.at c.gap_end-start.result c.word_end-end.result cut (grind arith) (sym w.is_comment.ensures ∙ w.if-is_comment.true)
    ]

pub returns-clause-first : goal.returns-clause-first
returns-clause-first c =
    let cut : WordSpan c.args.line.now c.args.at c.gap_end-start.result c.word_end-end.result = record { start_is = c.gap_end-start.ensures.end; end_is = c.word_end-end.ensures.end } in
    first_field c.args.line.now c.args.at c.gap_end-start.result c.word_end-end.result cut (grind arith) (sym c.is_comment.ensures ∙ c.if-is_comment.false)
