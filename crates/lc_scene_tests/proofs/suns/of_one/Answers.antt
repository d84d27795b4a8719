use Rattle.lc_bound.specs.SunLaws.{sun_laws}
use Rattle.lc_scene_tests.proofs.suns.of_one.Goals as goal

pub returns-clause-clump : goal.returns-clause-clump
returns-clause-clump c = rw c.one.ensures (sun_laws.one_valid c.args.sun.now c.requires)
