use Rattle.lc_bound.specs.HullLaws.{box_to-ordered}
use Rattle.lc_bound.proofs.hull.box_to.Goals as goal

pub invariant_of-result : goal.invariant_of-result
invariant_of-result c = rw (c.difference.ensures.value, c.difference-2.ensures.value) (box_to-ordered c.span.inside.lo c.span.inside.hi c.args.x c.span.invariant)
