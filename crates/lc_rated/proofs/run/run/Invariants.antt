use Rattle.std.proofs.Common.{◌≡◌, ◌+◌, ◌-◌, length}
use Rattle.lc_rated.specs.Cuts.{roots_of}
use Rattle.lc_rated.specs.Nodes.{IsCutOf}
use Rattle.lc_rated.proofs.CutSequence.{Going}
use Rattle.lc_rated.proofs.run.run.Given as goal

abbrev pub invariant-loop-nodes : goal.invariant-loop-nodes
invariant-loop-nodes g l =
    let trees = g.T.Lighting.trees l.lighting in
    record {
      cut : IsCutOf (g.T.Lighting.keeps l.lighting) (roots_of trees) l.nodes;
      going : Going l.size l.permille (roots_of trees) (length l.nodes.entries - length (roots_of trees));
      steps : l.steps ≡ l.fn.steps + length l.nodes.entries;
      room : l.nodes.room ≡ l.size;
    }

abbrev pub decreases-loop-nodes : goal.decreases-loop-nodes
decreases-loop-nodes g l = l.size - length l.nodes.entries
