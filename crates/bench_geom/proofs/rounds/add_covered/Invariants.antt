use Rattle.std.proofs.Common.{◌≡◌, ◌+◌, ◌%◌, ◌^◌, sum_by, take}
use Rattle.bench_geom.specs.Sums.{mark_if_covered}
use Rattle.bench_geom.proofs.rounds.add_covered.Given as goal

abbrev pub invariant-loop-s : goal.invariant-loop-s
invariant-loop-s l = l.total ≡ (l.sum + sum_by (mark_if_covered l.room) (take l.s-index l.segments)) % 2 ^ 64
