use Rattle.std.proofs.Common.{◌≡◌, ◌+◌, ◌%◌, ◌^◌, sum_by, take}
use Rattle.bench_terms.specs.Sums.{cosine_of}
use Rattle.bench_terms.proofs.rounds.add_cosines.Given as goal

abbrev pub invariant-loop-pair : goal.invariant-loop-pair
invariant-loop-pair l = l.total ≡ (l.sum + sum_by cosine_of (take l.pair-index l.pairs)) % 2 ^ 64
