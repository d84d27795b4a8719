use Rattle.std.proofs.Common.{◌≡◌, All, length}
use Rattle.lc_geom.specs.Triangles.{IsTri}
use Rattle.lc_hier.proofs.tests.stack.Given as goal

abbrev pub invariant-loop-height : goal.invariant-loop-height
invariant-loop-height l = record { valid : All IsTri l.list; len : length l.list ≡ l.height-index }
