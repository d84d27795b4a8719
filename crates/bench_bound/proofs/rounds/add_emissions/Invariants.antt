use Rattle.std.proofs.Common.{◌≡◌, ◌+◌, ◌%◌, ◌^◌, sum_by, take}
use Rattle.bench_bound.specs.Sums.{emission_of}
use Rattle.bench_bound.proofs.rounds.add_emissions.Given as goal

abbrev pub invariant-loop-e : goal.invariant-loop-e
invariant-loop-e l = l.total ≡ (l.sum + sum_by emission_of (take l.e-index l.emissions)) % 2 ^ 128
