use Rattle.std.proofs.Common.{◌-◌, length}
use Rattle.lc_hier.proofs.Walks.{Walked}
use Rattle.lc_hier.proofs.walk.search.Given as goal

abbrev pub invariant-loop-at : goal.invariant-loop-at
invariant-loop-at l = Walked l.p l.q l.nodes l.rows l.known l.at l.initial.tests l.tests

abbrev pub decreases-loop-at : goal.decreases-loop-at
decreases-loop-at l = length l.nodes - l.at
