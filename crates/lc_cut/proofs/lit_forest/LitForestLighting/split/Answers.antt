use Rattle.lc_bound.specs.Omni.{omni_meaning}
use Rattle.lc_bound.specs.Oriented.{oriented_meaning}
use Rattle.lc_bound.specs.Sun.{sun_meaning}
use Rattle.lc_cut.specs.Lit.{IsFactor}
use Rattle.lc_cut.proofs.Rooted.{lit_within, lit_split}
use Rattle.lc_cut.proofs.lit_forest.LitForestLighting.split.Goals as goal

pub split-requires-clause-node : goal.split-requires-clause-node
split-requires-clause-node g c =
    lit_within omni_meaning (g.T.Triangles.list c.args.self.now.scene.now) c.args.self.now.spot.now c.args.self.now.rule c.args.self.now.omni.now.root c.args.node (rw c.in-Omni.is at c.requires.node)

pub split-requires-clause-kept : goal.split-requires-clause-kept
split-requires-clause-kept g c = rw c.in-Omni.is at c.requires.kept

pub returns-in-Omni-clause-split : goal.returns-in-Omni-clause-split
returns-in-Omni-clause-split g c =
    rw c.in-Omni.is
    (lit_split omni_meaning (g.T.Triangles.list c.args.self.now.scene.now) c.args.self.now.spot.now c.args.self.now.rule (IsFactor omni_meaning (g.T.Triangles.list c.args.self.now.scene.now) c.args.self.now.spot.now c.args.self.now.omni.now.root) c.args.self.now.omni.now.root c.args.node c.split.result c.split.ensures.split)

pub split-requires-in-Oriented-clause-node : goal.split-requires-in-Oriented-clause-node
split-requires-in-Oriented-clause-node g c =
    lit_within oriented_meaning (g.T.Triangles.list c.args.self.now.scene.now) c.args.self.now.spot.now c.args.self.now.rule c.args.self.now.oriented.now.root c.args.node (rw c.in-Oriented.is at c.requires.node)

pub split-requires-in-Oriented-clause-kept : goal.split-requires-in-Oriented-clause-kept
split-requires-in-Oriented-clause-kept g c = rw c.in-Oriented.is at c.requires.kept

pub returns-in-Oriented-clause-split : goal.returns-in-Oriented-clause-split
returns-in-Oriented-clause-split g c =
    rw c.in-Oriented.is
    (lit_split oriented_meaning (g.T.Triangles.list c.args.self.now.scene.now) c.args.self.now.spot.now c.args.self.now.rule (IsFactor oriented_meaning (g.T.Triangles.list c.args.self.now.scene.now) c.args.self.now.spot.now c.args.self.now.oriented.now.root) c.args.self.now.oriented.now.root c.args.node c.split-in-Oriented.result c.split-in-Oriented.ensures.split)

pub split-requires-in-Sun-clause-node : goal.split-requires-in-Sun-clause-node
split-requires-in-Sun-clause-node g c =
    lit_within sun_meaning (g.T.Triangles.list c.args.self.now.scene.now) c.args.self.now.spot.now c.args.self.now.rule c.args.self.now.sun.now.root c.args.node (rw c.in-Sun.is at c.requires.node)

pub split-requires-in-Sun-clause-kept : goal.split-requires-in-Sun-clause-kept
split-requires-in-Sun-clause-kept g c = rw c.in-Sun.is at c.requires.kept

pub returns-in-Sun-clause-split : goal.returns-in-Sun-clause-split
returns-in-Sun-clause-split g c =
    rw c.in-Sun.is
    (lit_split sun_meaning (g.T.Triangles.list c.args.self.now.scene.now) c.args.self.now.spot.now c.args.self.now.rule (IsFactor sun_meaning (g.T.Triangles.list c.args.self.now.scene.now) c.args.self.now.spot.now c.args.self.now.sun.now.root) c.args.self.now.sun.now.root c.args.node c.split-in-Sun.result c.split-in-Sun.ensures.split)
