use Rattle.std.proofs.Common.{◌+◌, ◌∙◌, arith}
use Rattle.std.proofs.lemmas.List.{take_rest}
use Rattle.lc_scan.proofs.FieldLemmas.{backslash_at, feed_at, other_at}
use Rattle.lc_scan.proofs.fields.is_gap.Goals as goal

pub returns-in-92 : goal.returns-in-92
returns-in-92 c = c.breaks.ensures ∙ backslash_at c.args.line.now _ c.args.at c.requires c.in-92.is (take_rest c.args.line.now (c.args.at + 1))

pub returns-in-10 : goal.returns-in-10
returns-in-10 c = c.joins.ensures ∙ feed_at c.args.line.now c.args.at c.requires c.in-10.is

pub returns-in_default : goal.returns-in_default
returns-in_default c = c.is_blank.ensures ∙ other_at c.args.line.now c.args.at c.requires (λ e. absurd (omega arith)) (λ e. absurd (omega arith))
