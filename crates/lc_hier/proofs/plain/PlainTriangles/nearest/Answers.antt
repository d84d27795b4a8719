use Rattle.std.proofs.Common.{◌+◌, ap, sym, subst, ◌∙◌}
use Rattle.lc_geom.specs.Hits.{nearest}
use Rattle.lc_hier.proofs.Walking.{Progress, start, goes_on, ends}
use Rattle.lc_hier.proofs.plain.PlainTriangles.nearest.Goals as goal

pub loop-number-init : goal.loop-number-init
loop-number-init c = start c.args.e c.args.d c.triangles-t-items.result.now

pub loop-number-preserved : goal.loop-number-preserved
loop-number-preserved c =
    subst (Progress c.args.e c.args.d c.triangles-t-items.result.now (c.loop-number.number + 1)) (sym c.sooner-best.ensures)
    (goes_on c.args.e c.args.d c.triangles-t-items.result.now c.loop-number.number _ c.loop-number.best c.depth.result c.loop-number-test.true c.depth.ensures.value c.loop-number.invariant)

pub returns : goal.returns
returns c =
    ends c.args.e c.args.d c.triangles-t-items.result.now c.loop-number.number c.loop-number.best c.loop-number-test.false c.loop-number.invariant
    ∙ ap (nearest c.args.e c.args.d) c.triangles-t-items.ensures.same
