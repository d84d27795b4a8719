use Rattle.std.proofs.Common.{◌∙◌}
use Rattle.lc_num.proofs.BoxCode.{cosine_whole, cosine_root, cosine_quotient}
use Rattle.lc_num.proofs.cosines.positive_cosine.Goals as goal

pub returns-then-squares-own-clause-value : goal.returns-then-squares-own-clause-value
returns-then-squares-own-clause-value c = cosine_whole c.args.along c.args.squares c.requires.some c.if-squares-own.true

pub returns-then-squares-lt-LONG_SQUARES-clause-value : goal.returns-then-squares-lt-LONG_SQUARES-clause-value
returns-then-squares-lt-LONG_SQUARES-clause-value c = c.cosine.ensures.value ∙ cosine_root c.args.along c.args.squares c.requires.some c.if-squares-own.false

pub returns-else-squares-lt-LONG_SQUARES-clause-value : goal.returns-else-squares-lt-LONG_SQUARES-clause-value
returns-else-squares-lt-LONG_SQUARES-clause-value c = c.isqrt.ensures.value ∙ cosine_quotient c.args.along c.args.squares c.requires.some c.if-squares-own.false
