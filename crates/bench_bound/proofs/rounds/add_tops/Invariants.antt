use Rattle.std.proofs.Common.{◌≡◌, ◌+◌, ◌%◌, ◌^◌, sum_by, take}
use Rattle.bench_bound.specs.Sums.{top_sum}
use Rattle.bench_bound.proofs.rounds.add_tops.Given as goal

abbrev pub invariant-loop-case : goal.invariant-loop-case
invariant-loop-case l = l.total ≡ (l.sum + sum_by (top_sum l.rule) (take l.case-index l.cases)) % 2 ^ 128
