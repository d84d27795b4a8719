use Rattle.std.proofs.Common.{◌≤◌, All, length}
use Rattle.lc_geom.specs.Triangles.{IsTri}
use Rattle.bench_geom.proofs.inputs.room.Given as goal

abbrev pub invariant-loop : goal.invariant-loop
invariant-loop l = record { valid : All IsTri l.list; few : length l.list ≤ l.counter; counter : l.counter ≤ 64 }
