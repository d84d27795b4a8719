use Rattle.std.proofs.Common.{◌≡◌, All, length}
use Rattle.lc_geom.specs.Triangles.{IsTri}
use Rattle.lc_hier.proofs.queries_tests.random_list.Given as goal

abbrev pub invariant-loop-number : goal.invariant-loop-number
invariant-loop-number l = record { valid : All IsTri l.list; len : length l.list ≡ l.number }
