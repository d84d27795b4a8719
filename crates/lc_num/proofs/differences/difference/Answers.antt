use Rattle.lc_num.proofs.DifferenceLemmas.{components}
use Rattle.lc_num.proofs.differences.difference.Goals as goal

pub returns-clause-value : goal.returns-clause-value
returns-clause-value c = components c.args.a c.args.b c.requires.a c.requires.b
