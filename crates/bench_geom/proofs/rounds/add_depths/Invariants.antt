use Rattle.std.proofs.Common.{◌≡◌, ◌+◌, ◌%◌, ◌^◌, sum_by, take}
use Rattle.bench_geom.specs.Sums.{depth_sum}
use Rattle.bench_geom.proofs.rounds.add_depths.Given as goal

abbrev pub invariant-loop-ray : goal.invariant-loop-ray
invariant-loop-ray l = l.total ≡ (l.sum + sum_by depth_sum (take l.ray-index l.rays)) % 2 ^ 64
