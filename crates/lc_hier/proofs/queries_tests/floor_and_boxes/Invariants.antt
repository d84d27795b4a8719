use Rattle.std.proofs.Common.{◌≡◌, ◌+◌, All, length}
use Rattle.lc_geom.specs.Triangles.{IsTri}
use Rattle.lc_hier.proofs.queries_tests.floor_and_boxes.Given as goal

abbrev pub invariant-loop-at : goal.invariant-loop-at
invariant-loop-at l = record { valid : All IsTri l.list; len : length l.list ≡ l.at + 2 }
