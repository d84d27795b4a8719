use Rattle.lc_bound.specs.HullLaws.{hull-ordered}
use Rattle.lc_bound.proofs.hull.hull.Goals as goal

pub invariant_of-result : goal.invariant_of-result
invariant_of-result c = rw (c.lesser.ensures.value, c.greater.ensures.value) (hull-ordered c.a.inside.lo c.b.inside.lo c.a.inside.hi c.b.inside.hi c.a.invariant)
