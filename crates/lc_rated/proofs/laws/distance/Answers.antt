use Rattle.lc_rated.proofs.CutSequence.{cut_near, near}
use Rattle.lc_rated.proofs.laws.distance.Goals as goal

pub returns : goal.returns
returns c = record { channel = cut_near; answer = near }
