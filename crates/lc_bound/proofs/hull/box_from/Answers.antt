use Rattle.lc_bound.specs.HullLaws.{box_from-ordered}
use Rattle.lc_bound.proofs.hull.box_from.Goals as goal

pub invariant_of-result : goal.invariant_of-result
invariant_of-result c = rw (c.difference.ensures.value, c.difference-2.ensures.value) (box_from-ordered c.span.inside.lo c.span.inside.hi c.args.x c.span.invariant)
