use Rattle.std.proofs.Common.{◌-◌, length}
use Rattle.lc_hier.proofs.Firsts.{Reached}
use Rattle.lc_hier.proofs.walk.nearest.Given as goal

abbrev pub invariant-loop-at : goal.invariant-loop-at
invariant-loop-at l = Reached l.e l.d l.nodes l.rows l.at l.best l.beam.start l.beam.end l.beam.most

abbrev pub decreases-loop-at : goal.decreases-loop-at
decreases-loop-at l = length l.nodes - l.at
