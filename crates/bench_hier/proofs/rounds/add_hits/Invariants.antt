use Rattle.std.proofs.Common.{◌≡◌, ◌+◌, ◌%◌, ◌^◌, sum_by, take}
use Rattle.bench_hier.specs.Sums.{first_hit_sum}
use Rattle.bench_hier.proofs.rounds.add_hits.Given as goal

abbrev pub invariant-loop-ray : goal.invariant-loop-ray
invariant-loop-ray l = l.total ≡ (l.sum + sum_by (first_hit_sum l.room) (take l.ray-index l.rays)) % 2 ^ 64
