use Rattle.lc_cut.proofs.Children.{left_within, right_within, split_some}
use Rattle.lc_cut.proofs.node.split.Goals as goal

pub found-requires-clause-node : goal.found-requires-clause-node
found-requires-clause-node g c = left_within c.args.tree.now.root c.args.node c.in_ok-left.left c.in_ok-left.right c.in_ok-left.ensures

pub found-requires-2-clause-node : goal.found-requires-2-clause-node
found-requires-2-clause-node g c = right_within c.args.tree.now.root c.args.node c.in_ok-left.left c.in_ok-left.right c.in_ok-left.ensures

pub returns-clause-split : goal.returns-clause-split
returns-clause-split g c =
    split_some g.K.Kind.meaning (g.T.Triangles.list c.args.scene.now) c.args.spot.now c.args.rule c.args.tree.now.root c.args.node c.in_ok-left.left c.in_ok-left.right c.in_ok-left.ensures
    c.args.kept c.factors-kept_by.result.0 c.factors-kept_by.result.1 c.requires.kept c.factors-kept_by.ensures.left c.factors-kept_by.ensures.right
    (record { est = c.estimate.result; left = c.found.result; right = c.found-2.result }) c.estimate.ensures
    c.found.ensures.node c.found.ensures.light c.found.ensures.kept c.found-2.ensures.node c.found-2.ensures.light c.found-2.ensures.kept
