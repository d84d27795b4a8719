use Rattle.lc_rated.proofs.CutSequence.{size_most, evals_size, evals_most}
use Rattle.lc_rated.proofs.laws.counted_evaluations.Goals as goal

pub returns : goal.returns
returns c = record { size = size_most; evals = evals_most; each = evals_size }
