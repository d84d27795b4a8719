use Rattle.std.proofs.Common.{◌≡◌, ◌+◌, ◌%◌, ◌^◌, sum_by, take}
use Rattle.bench_terms.specs.Sums.{length_sum}
use Rattle.bench_terms.proofs.rounds.add_lengths.Given as goal

abbrev pub invariant-loop-offset : goal.invariant-loop-offset
invariant-loop-offset l = l.total ≡ (l.sum + sum_by length_sum (take l.offset-index l.vectors)) % 2 ^ 64
