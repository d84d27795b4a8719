use Rattle.lc_hier.proofs.Walking.{Progress}
use Rattle.lc_hier.proofs.plain.PlainTriangles.nearest.Given as goal

abbrev pub invariant-loop-number : goal.invariant-loop-number
invariant-loop-number l = Progress l.e l.d l.t-items l.number l.best
