use Rattle.lc_sample.proofs.SampleLemmas.{sample_near, sample_fraction, sample_size, sample_evals, sample_each, sample_est, sample_bound}
use Rattle.lc_sample.proofs.laws.sampled_light.Goals as goal

pub returns : goal.returns
returns c = record { near = sample_near; fraction = sample_fraction; size = sample_size; evals = sample_evals; each = sample_each; est = sample_est; bound = sample_bound }
