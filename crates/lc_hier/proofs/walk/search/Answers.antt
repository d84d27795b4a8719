use Rattle.std.proofs.Common.{◌≡◌, ◌+◌, length, arith, subst}
use Rattle.lc_hier.specs.Seen.{AreClear}
use Rattle.lc_hier.proofs.Layouts.{first_at_end}
use Rattle.lc_hier.proofs.Walks.{walk_skips, walk_enters, node_is, leaf_order, leaf_most, counted_before, others_rises, others_most}
use Rattle.lc_hier.proofs.walk.search.Goals as goal

pub loop-at-smaller-then-misses : goal.loop-at-smaller-then-misses
loop-at-smaller-then-misses c =
    let is = node_is c.args.p c.args.q c.args.nodes.now c.args.rows.now c.args.known c.args.tests.now c.requires.laid c.loop-at.at c.loop-at.tests c.node_at-node.result c.node_at-node.ensures (omega (arith, c.loop-at-test.true)) c.loop-at.invariant in
    omega (arith, is.onward, is.within, c.loop-at-test.true)

pub loop-at-preserved-then-misses : goal.loop-at-preserved-then-misses
loop-at-preserved-then-misses c =
    walk_skips c.args.p c.args.q c.args.nodes.now c.args.rows.now c.args.known c.args.tests.now c.requires.laid c.loop-at.at c.loop-at.tests c.node_at-node.result c.node_at-node.ensures (omega (arith, c.loop-at-test.true)) c.loop-at.invariant
    (λ t holds. rw (c.toward-beam.ensures.start, c.toward-beam.ensures.end, c.toward-beam.ensures.most) at (c.misses.ensures c.if-misses.true t holds))

pub blocker_among-found-requires-clause-order : goal.blocker_among-found-requires-clause-order
blocker_among-found-requires-clause-order c =
    leaf_order c.args.p c.args.q c.args.nodes.now c.args.rows.now c.args.known c.args.tests.now c.requires.laid c.loop-at.at c.loop-at.tests c.node_at-node.result c.node_at-node.ensures (omega (arith, c.loop-at-test.true)) c.loop-at.invariant c.node_at.result c.node_at.ensures c.if-node-at.true

pub blocker_among-found-requires-clause-most : goal.blocker_among-found-requires-clause-most
blocker_among-found-requires-clause-most c =
    leaf_most c.args.p c.args.q c.args.nodes.now c.args.rows.now c.args.known c.args.tests.now c.requires.laid c.loop-at.at c.loop-at.tests c.node_at-node.result c.node_at-node.ensures (omega (arith, c.loop-at-test.true)) c.loop-at.invariant c.node_at.result c.node_at.ensures

pub blocker_among-found-requires-clause-few : goal.blocker_among-found-requires-clause-few
blocker_among-found-requires-clause-few c =
    let most = leaf_most c.args.p c.args.q c.args.nodes.now c.args.rows.now c.args.known c.args.tests.now c.requires.laid c.loop-at.at c.loop-at.tests c.node_at-node.result c.node_at-node.ensures (omega (arith, c.loop-at-test.true)) c.loop-at.invariant c.node_at.result c.node_at.ensures in
    let count = counted_before c.args.p c.args.q c.args.nodes.now c.args.rows.now c.args.known c.args.tests.now c.requires.laid c.loop-at.at c.loop-at.tests c.node_at-node.result c.node_at-node.ensures (omega (arith, c.loop-at-test.true)) c.loop-at.invariant in
    omega (arith, most, count, others_most c.args.known c.node_at-node.result.first, c.requires.few)

pub returns-then-is_some-clause-counted : goal.returns-then-is_some-clause-counted
returns-then-is_some-clause-counted c =
    let most = leaf_most c.args.p c.args.q c.args.nodes.now c.args.rows.now c.args.known c.args.tests.now c.requires.laid c.loop-at.at c.loop-at.tests c.node_at-node.result c.node_at-node.ensures (omega (arith, c.loop-at-test.true)) c.loop-at.invariant c.node_at.result c.node_at.ensures in
    let count = counted_before c.args.p c.args.q c.args.nodes.now c.args.rows.now c.args.known c.args.tests.now c.requires.laid c.loop-at.at c.loop-at.tests c.node_at-node.result c.node_at-node.ensures (omega (arith, c.loop-at-test.true)) c.loop-at.invariant in
    omega (arith, count, c.blocker_among-found.ensures.counted, others_rises c.args.known c.node_at.result.first (length c.args.rows.now) most)

pub loop-at-preserved : goal.loop-at-preserved
loop-at-preserved c =
    walk_enters c.args.p c.args.q c.args.nodes.now c.args.rows.now c.args.known c.args.tests.now c.requires.laid c.loop-at.at c.loop-at.tests c.node_at-node.result c.node_at-node.ensures (omega (arith, c.loop-at-test.true)) c.loop-at.invariant c.if-node-at.false

pub returns-clause-clear : goal.returns-clause-clear
returns-clause-clear c =
    let last : c.loop-at.at + 1 ≡ length c.args.nodes.now = omega (arith, c.loop-at-test.false, c.loop-at.invariant.within) in
    subst (AreClear c.args.p c.args.q c.args.rows.now c.args.known) (first_at_end c.args.nodes.now c.args.rows.now c.requires.laid c.loop-at.at last) c.loop-at.invariant.clear
