use Rattle.lc_num.proofs.BoxCode.{cosine_none, cosine_read}
use Rattle.lc_num.proofs.cosines.cosine_at_most.Goals as goal

pub returns-then-along-le0-clause-value : goal.returns-then-along-le0-clause-value
returns-then-along-le0-clause-value c = cosine_none c.args.along c.args.squares c.ranges.along c.if-along-le0.true

pub returns-else-along-le0-clause-value : goal.returns-else-along-le0-clause-value
returns-else-along-le0-clause-value c = cosine_read c.args.along c.args.squares c.positive_cosine.result c.ranges.along c.if-along-le0.false c.positive_cosine.ensures.value
