use Rattle.std.proofs.Common.{◌∙◌, sym}
use Rattle.lc_cut.proofs.Children.{root_none, root_some, root_within}
use Rattle.lc_cut.proofs.node.root.Goals as goal

pub returns-then-count-eq0-clause-root : goal.returns-then-count-eq0-clause-root
returns-then-count-eq0-clause-root g c = root_none g.K.Kind.meaning (g.T.Triangles.list c.args.scene.now) c.args.spot.now c.args.rule c.args.tree.now.root (sym c.if-count-eq0.true ∙ c.count.ensures.count)

pub returns-clause-root : goal.returns-clause-root
returns-clause-root g c =
    root_some g.K.Kind.meaning (g.T.Triangles.list c.args.scene.now) c.args.spot.now c.args.rule c.args.tree.now.root c.factor-factor.result c.found.result
    (root_within g.K.Kind.meaning (g.T.Triangles.list c.args.scene.now) c.args.spot.now c.args.rule c.args.tree.now.root c.count.result c.count.ensures.count c.if-count-eq0.false)
    c.factor-factor.ensures.factor c.found.ensures.node c.found.ensures.light c.found.ensures.kept
