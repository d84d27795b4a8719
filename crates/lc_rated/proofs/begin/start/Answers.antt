use Rattle.std.proofs.Common.{arith}
use Rattle.lc_rated.proofs.Starting.{start_none, start_count, start_small, start_key, start_node, start_some, steps_none, steps_some}
use Rattle.lc_rated.proofs.begin.start.Goals as goal

pub add-requires-clause-room : goal.add-requires-clause-room
add-requires-clause-room g c =
    omega (arith, start_count (g.T.Lighting.keeps c.args.lighting.now) (g.T.Lighting.trees c.args.lighting.now) c.args.kind c.args.nodes.now c.requires.begun, c.requires.room)

pub add-requires-clause-node : goal.add-requires-clause-node
add-requires-clause-node g c =
    start_node (g.T.Lighting.keeps c.args.lighting.now) (g.T.Lighting.trees c.args.lighting.now) c.args.kind c.args.nodes.now c.requires.begun c.requires.limited c.in-Some.root c.in-Some.ensures.root

pub add-requires-clause-key : goal.add-requires-clause-key
add-requires-clause-key g c =
    start_key (g.T.Lighting.keeps c.args.lighting.now) (g.T.Lighting.trees c.args.lighting.now) c.args.kind c.args.nodes.now c.requires.begun c.requires.limited c.in-Some.root c.in-Some.ensures.root

pub add-requires-clause-small : goal.add-requires-clause-small
add-requires-clause-small g c =
    start_small (g.T.Lighting.keeps c.args.lighting.now) (g.T.Lighting.trees c.args.lighting.now) c.args.kind c.args.nodes.now c.requires.begun c.requires.limited c.in-Some.root c.in-Some.ensures.root

pub returns-in-Some-clause-begun : goal.returns-in-Some-clause-begun
returns-in-Some-clause-begun g c =
    start_some (g.T.Lighting.keeps c.args.lighting.now) (g.T.Lighting.trees c.args.lighting.now) c.args.kind c.args.nodes.now c.requires.begun c.requires.limited c.in-Some.root c.in-Some.ensures.root c.add.new.self c.add.ensures

pub returns-in-Some-clause-steps : goal.returns-in-Some-clause-steps
returns-in-Some-clause-steps g c =
    omega (arith, c.in-Some.ensures.steps, steps_some (g.T.Lighting.keeps c.args.lighting.now) (g.T.Lighting.trees c.args.lighting.now) c.args.kind c.args.nodes.now c.requires.begun c.requires.limited c.in-Some.root c.in-Some.ensures.root)

pub returns-in_default-clause-begun : goal.returns-in_default-clause-begun
returns-in_default-clause-begun g c =
    start_none (g.T.Lighting.keeps c.args.lighting.now) (g.T.Lighting.trees c.args.lighting.now) c.args.kind c.args.nodes.now c.requires.begun c.in_default.ensures.root

pub returns-in_default-clause-steps : goal.returns-in_default-clause-steps
returns-in_default-clause-steps g c =
    omega (arith, c.in_default.ensures.steps, steps_none (g.T.Lighting.keeps c.args.lighting.now) (g.T.Lighting.trees c.args.lighting.now) c.args.kind c.args.nodes.now c.requires.begun c.in_default.ensures.root)
