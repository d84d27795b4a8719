use Rattle.std.proofs.Common.{All}
use Rattle.lc_geom.specs.Triangles.{IsTri}
use Rattle.bench_hier.proofs.room.push_face.Given as goal

abbrev pub invariant-loop-number : goal.invariant-loop-number
invariant-loop-number l = All IsTri l.list
