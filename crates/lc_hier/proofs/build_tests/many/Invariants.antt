use Rattle.std.proofs.Common.{◌≡◌, All, vec_len}
use Rattle.lc_geom.specs.Triangles.{IsTri}
use Rattle.lc_hier.proofs.build_tests.many.Given as goal

abbrev pub invariant-loop-number : goal.invariant-loop-number
invariant-loop-number l = record { valid : All IsTri l.list.items; len : vec_len l.list ≡ l.number }
