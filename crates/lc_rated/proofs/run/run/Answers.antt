use Rattle.std.proofs.Common.{◌≡◌, ◌-◌, ◌<◌, ◌≤◌, length, true, false, arith}
use Rattle.lc_rated.specs.Cuts.{roots_of, stops}
use Rattle.lc_rated.specs.Nodes.{cut_now}
use Rattle.lc_rated.proofs.CutSequence.{few_of, key_positive}
use Rattle.lc_rated.proofs.Looping.{now_small, now_test, now_below, next_going, now_answer}
use Rattle.lc_rated.proofs.run.run.Goals as goal

pub is_done-requires-clause-small : goal.is_done-requires-clause-small
is_done-requires-clause-small g c = now_small (g.T.Lighting.keeps c.args.lighting.now) (g.T.Lighting.trees c.args.lighting.now) c.loop-nodes.nodes c.loop-nodes.invariant.cut c.requires.limited

pub refine-requires-clause-some : goal.refine-requires-clause-some
refine-requires-clause-some g c =
    let trees = g.T.Lighting.trees c.args.lighting.now in
    let test : stops c.args.size c.args.permille (cut_now (roots_of trees) c.loop-nodes.nodes) ≡ false = now_test (g.T.Lighting.keeps c.args.lighting.now) (g.T.Lighting.trees c.args.lighting.now) c.loop-nodes.nodes c.loop-nodes.invariant.cut false c.args.size c.args.permille c.loop-nodes-test.ensures in
    key_positive c.args.size c.args.permille (cut_now (roots_of trees) c.loop-nodes.nodes) test

pub refine-requires-clause-room : goal.refine-requires-clause-room
refine-requires-clause-room g c =
    let trees = g.T.Lighting.trees c.args.lighting.now in
    let test : stops c.args.size c.args.permille (cut_now (roots_of trees) c.loop-nodes.nodes) ≡ false = now_test (g.T.Lighting.keeps c.args.lighting.now) (g.T.Lighting.trees c.args.lighting.now) c.loop-nodes.nodes c.loop-nodes.invariant.cut false c.args.size c.args.permille c.loop-nodes-test.ensures in
    let below : length c.loop-nodes.nodes.entries < c.args.size = now_below (g.T.Lighting.keeps c.args.lighting.now) (g.T.Lighting.trees c.args.lighting.now) c.loop-nodes.nodes c.loop-nodes.invariant.cut c.args.size c.args.permille (few_of c.args.size (g.T.Lighting.trees c.args.lighting.now) c.requires.least) c.loop-nodes.invariant.going test in
    omega (arith, below, c.loop-nodes.invariant.room)

pub loop-nodes-smaller : goal.loop-nodes-smaller
loop-nodes-smaller g c =
    let trees = g.T.Lighting.trees c.args.lighting.now in
    let test : stops c.args.size c.args.permille (cut_now (roots_of trees) c.loop-nodes.nodes) ≡ false = now_test (g.T.Lighting.keeps c.args.lighting.now) (g.T.Lighting.trees c.args.lighting.now) c.loop-nodes.nodes c.loop-nodes.invariant.cut false c.args.size c.args.permille c.loop-nodes-test.ensures in
    let below : length c.loop-nodes.nodes.entries < c.args.size = now_below (g.T.Lighting.keeps c.args.lighting.now) (g.T.Lighting.trees c.args.lighting.now) c.loop-nodes.nodes c.loop-nodes.invariant.cut c.args.size c.args.permille (few_of c.args.size (g.T.Lighting.trees c.args.lighting.now) c.requires.least) c.loop-nodes.invariant.going test in
    omega (arith, below, c.refine.ensures.more)

pub loop-nodes-preserved : goal.loop-nodes-preserved
loop-nodes-preserved g c =
    let trees = g.T.Lighting.trees c.args.lighting.now in
    let test : stops c.args.size c.args.permille (cut_now (roots_of trees) c.loop-nodes.nodes) ≡ false = now_test (g.T.Lighting.keeps c.args.lighting.now) (g.T.Lighting.trees c.args.lighting.now) c.loop-nodes.nodes c.loop-nodes.invariant.cut false c.args.size c.args.permille c.loop-nodes-test.ensures in
    let some : length (roots_of trees) ≤ length c.loop-nodes.nodes.entries = c.loop-nodes.invariant.cut.some in
    record {
      cut = c.refine.ensures.cut;
      going = next_going c.args.size c.args.permille (roots_of trees) (length c.loop-nodes.nodes.entries - length (roots_of trees)) (length c.refine.new.nodes.entries - length (roots_of trees)) (omega (arith, some, c.refine.ensures.more)) c.loop-nodes.invariant.going test;
      steps = omega (arith, c.refine.ensures.more, c.refine.ensures.steps, c.loop-nodes.invariant.steps);
      room = omega (arith, c.refine.ensures.room, c.loop-nodes.invariant.room);
    }

pub returns-clause-value : goal.returns-clause-value
returns-clause-value g c =
    let trees = g.T.Lighting.trees c.args.lighting.now in
    let test : stops c.args.size c.args.permille (cut_now (roots_of trees) c.loop-nodes.nodes) ≡ true = now_test (g.T.Lighting.keeps c.args.lighting.now) (g.T.Lighting.trees c.args.lighting.now) c.loop-nodes.nodes c.loop-nodes.invariant.cut true c.args.size c.args.permille c.loop-nodes-test.ensures in
    now_answer (g.T.Lighting.keeps c.args.lighting.now) (g.T.Lighting.trees c.args.lighting.now) c.loop-nodes.nodes c.loop-nodes.invariant.cut c.args.size c.args.permille (few_of c.args.size (g.T.Lighting.trees c.args.lighting.now) c.requires.least) c.loop-nodes.invariant.going test c.answer_at.result c.answer_at.ensures.size c.answer_at.ensures.evals c.answer_at.ensures.est c.answer_at.ensures.bound
