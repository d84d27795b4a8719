use Rattle.lc_rated.proofs.CutSequence.{fraction}
use Rattle.lc_rated.proofs.laws.fraction.Goals as goal

pub returns : goal.returns
returns c = fraction
