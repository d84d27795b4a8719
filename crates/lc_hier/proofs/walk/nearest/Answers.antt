use Rattle.std.proofs.Common.{◌≡◌, ◌+◌, length, arith, subst}
use Rattle.lc_hier.specs.Seen.{IsFirstAmong}
use Rattle.lc_hier.proofs.Layouts.{first_at_end}
use Rattle.lc_hier.proofs.Firsts.{reach_skips, reach_enters, reach_passes, reach_order, reach_most, node_here, most_stays, hit_below}
use Rattle.lc_hier.proofs.walk.nearest.Goals as goal

pub loop-at-smaller-then-misses : goal.loop-at-smaller-then-misses
loop-at-smaller-then-misses c =
    let is = node_here c.args.e c.args.d c.args.nodes.now c.args.rows.now c.requires.laid c.loop-at.at c.loop-at.best c.loop-at.beam.start c.loop-at.beam.end c.loop-at.beam.most c.node_at-node.result c.node_at-node.ensures (omega (arith, c.loop-at-test.true)) c.loop-at.invariant in
    omega (arith, is.onward, is.within, c.loop-at-test.true)

pub loop-at-preserved-then-misses : goal.loop-at-preserved-then-misses
loop-at-preserved-then-misses c =
    reach_skips c.args.e c.args.d c.args.nodes.now c.args.rows.now c.requires.laid c.loop-at.at c.loop-at.best c.loop-at.beam.start c.loop-at.beam.end c.loop-at.beam.most c.node_at-node.result c.node_at-node.ensures (omega (arith, c.loop-at-test.true)) c.loop-at.invariant
    (c.misses.ensures c.if-misses.true)

pub nearest_among-best-requires-clause-order : goal.nearest_among-best-requires-clause-order
nearest_among-best-requires-clause-order c =
    reach_order c.args.e c.args.d c.args.nodes.now c.args.rows.now c.requires.laid c.loop-at.at c.loop-at.best c.loop-at.beam.start c.loop-at.beam.end c.loop-at.beam.most c.node_at-node.result c.node_at-node.ensures (omega (arith, c.loop-at-test.true)) c.loop-at.invariant c.node_at.result c.node_at.ensures c.if-node-at.true

pub nearest_among-best-requires-clause-most : goal.nearest_among-best-requires-clause-most
nearest_among-best-requires-clause-most c =
    reach_most c.args.e c.args.d c.args.nodes.now c.args.rows.now c.requires.laid c.loop-at.at c.loop-at.best c.loop-at.beam.start c.loop-at.beam.end c.loop-at.beam.most c.node_at-node.result c.node_at-node.ensures (omega (arith, c.loop-at-test.true)) c.loop-at.invariant c.node_at.result c.node_at.ensures

pub shorten-requires : goal.shorten-requires
shorten-requires c = hit_below c.args.e c.args.d c.args.rows.now c.nearest_among-best.result c.in-Some.hit c.in-Some.is c.nearest_among-best.ensures.first.hit

pub loop-at-preserved-in_default : goal.loop-at-preserved-in_default
loop-at-preserved-in_default c =
    reach_passes c.args.e c.args.d c.args.nodes.now c.args.rows.now c.requires.laid c.loop-at.at c.loop-at.best c.loop-at.beam.start c.loop-at.beam.end c.loop-at.beam.most c.node_at-node.result c.node_at-node.ensures (omega (arith, c.loop-at-test.true)) c.loop-at.invariant c.node_at.result c.node_at.ensures c.nearest_among-best.result c.loop-at.beam.start c.loop-at.beam.end c.loop-at.beam.most c.loop-at.invariant.start_is c.loop-at.invariant.end_is
    (most_stays c.loop-at.best c.nearest_among-best.result c.loop-at.beam.most c.in_default.is c.nearest_among-best.ensures.some c.loop-at.invariant.most_is) c.nearest_among-best.ensures.first

pub loop-at-preserved : goal.loop-at-preserved
loop-at-preserved c =
    reach_enters c.args.e c.args.d c.args.nodes.now c.args.rows.now c.requires.laid c.loop-at.at c.loop-at.best c.loop-at.beam.start c.loop-at.beam.end c.loop-at.beam.most c.node_at-node.result c.node_at-node.ensures (omega (arith, c.loop-at-test.true)) c.loop-at.invariant c.if-node-at.false

pub returns : goal.returns
returns c =
    let last : c.loop-at.at + 1 ≡ length c.args.nodes.now = omega (arith, c.loop-at-test.false, c.loop-at.invariant.within) in
    subst (λ k. IsFirstAmong c.args.e c.args.d c.args.rows.now k c.loop-at.best) (first_at_end c.args.nodes.now c.args.rows.now c.requires.laid c.loop-at.at last) c.loop-at.invariant.first
