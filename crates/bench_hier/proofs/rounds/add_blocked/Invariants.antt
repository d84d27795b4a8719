use Rattle.std.proofs.Common.{◌≡◌, ◌+◌, ◌%◌, ◌^◌, sum_by, take}
use Rattle.bench_hier.specs.Sums.{one_if_blocked}
use Rattle.bench_hier.proofs.rounds.add_blocked.Given as goal

abbrev pub invariant-loop-s : goal.invariant-loop-s
invariant-loop-s l = l.total ≡ (l.sum + sum_by (one_if_blocked l.room) (take l.s-index l.segments)) % 2 ^ 64
