use Rattle.std.proofs.Common.{arith, sym, ap, ◌∙◌}
use Rattle.lc_geom.specs.Hits.{blocked}
use Rattle.lc_hier.proofs.Walking.{blocked_here, blocked_later, blocked_none}
use Rattle.lc_hier.proofs.plain.PlainTriangles.blocked.Goals as goal

pub returns-then-blocks : goal.returns-then-blocks
returns-then-blocks c =
    sym (blocked_here c.args.p c.args.q c.triangles-t-items.result.now c.loop-t.t-index _ c.loop-t-test.true (sym c.blocks-in-loop-t.ensures ∙ c.if-blocks.true))
    ∙ c.loop-t.invariant ∙ ap (blocked c.args.p c.args.q) c.triangles-t-items.ensures.same

pub loop-t-preserved : goal.loop-t-preserved
loop-t-preserved c =
    sym (blocked_later c.args.p c.args.q c.triangles-t-items.result.now c.loop-t.t-index _ c.loop-t-test.true (sym c.blocks-in-loop-t.ensures ∙ c.if-blocks.false))
    ∙ c.loop-t.invariant

pub returns : goal.returns
returns c =
    sym (blocked_none c.args.p c.args.q c.triangles-t-items.result.now c.loop-t.t-index (omega (arith, c.loop-t-test.false)))
    ∙ c.loop-t.invariant ∙ ap (blocked c.args.p c.args.q) c.triangles-t-items.ensures.same
