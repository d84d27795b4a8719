use Rattle.lc_cut.proofs.Children.{left_within, right_within, left_keeps, right_keeps}
use Rattle.lc_cut.proofs.node.factors.Goals as goal

pub leader-requires : goal.leader-requires
leader-requires g c = left_within c.args.tree.now.root c.args.node c.args.left c.args.right c.requires.kids

pub factor-requires-clause-node : goal.factor-requires-clause-node
factor-requires-clause-node g c = right_within c.args.tree.now.root c.args.node c.args.left c.args.right c.requires.kids

pub returns-then-leader-clause-left : goal.returns-then-leader-clause-left
returns-then-leader-clause-left g c =
    left_keeps g.K.Kind.meaning (g.T.Triangles.list c.args.scene.now) c.args.spot.now c.args.tree.now c.args.node c.args.left c.args.right c.requires.kids c.args.kept c.requires.kept c.leader.result c.leader-2.result c.leader.ensures.leader c.leader-2.ensures.leader c.if-leader.true

pub factor-requires-else-leader-clause-node : goal.factor-requires-else-leader-clause-node
factor-requires-else-leader-clause-node g c = left_within c.args.tree.now.root c.args.node c.args.left c.args.right c.requires.kids

pub returns-else-leader-clause-right : goal.returns-else-leader-clause-right
returns-else-leader-clause-right g c =
    right_keeps g.K.Kind.meaning (g.T.Triangles.list c.args.scene.now) c.args.spot.now c.args.tree.now c.args.node c.args.left c.args.right c.requires.kids c.args.kept c.requires.kept c.leader.result c.leader-2.result c.leader.ensures.leader c.leader-2.ensures.leader c.leader-2.ensures.led c.if-leader.false
