use Rattle.lc_light.proofs.AreaLemmas.{cross_fits}
use Rattle.lc_light.proofs.area.Area.spans.Goals as goal

pub square-requires : goal.square-requires
square-requires c = cross_fits c.cross.result (c.cross.ensures.within 100_000_000 100_000_000 c.requires.along c.requires.across)
