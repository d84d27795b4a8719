use Rattle.std.proofs.Common.{◌≡◌, ◌+◌, ◌%◌, ◌^◌, sum_by, take}
use Rattle.bench_bound.specs.Sums.{material_sum}
use Rattle.bench_bound.proofs.rounds.add_materials.Given as goal

abbrev pub invariant-loop-lit : goal.invariant-loop-lit
invariant-loop-lit l = l.total ≡ (l.sum + sum_by material_sum (take l.lit-index l.reflections)) % 2 ^ 128
