use Rattle.std.proofs.Common.{All}
use Rattle.lc_geom.specs.Triangles.{IsTri}
use Rattle.bench_hier.proofs.room.triangles.Given as goal

abbrev pub invariant-loop : goal.invariant-loop
invariant-loop l = All IsTri l.list
