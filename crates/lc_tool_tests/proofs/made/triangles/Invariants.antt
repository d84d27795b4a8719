use Rattle.std.proofs.Common.{All}
use Rattle.lc_geom.specs.Triangles.{IsTri}
use Rattle.lc_tool_tests.proofs.made.triangles.Given as goal

abbrev pub invariant-loop-face : goal.invariant-loop-face
invariant-loop-face l = All IsTri l.list
