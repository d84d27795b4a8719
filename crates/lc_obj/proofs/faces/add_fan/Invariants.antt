use Rattle.std.proofs.Common.{length}
use Rattle.lc_obj.proofs.FanLemmas.{Fanned}
use Rattle.lc_obj.proofs.faces.add_fan.Given as goal

abbrev pub invariant-loop-value : goal.invariant-loop-value
invariant-loop-value l = Fanned l.given l.name l.fn.values l.fn.faces l.first l.previous l.values l.faces

abbrev pub decreases-loop-value : goal.decreases-loop-value
decreases-loop-value l = length l.values
