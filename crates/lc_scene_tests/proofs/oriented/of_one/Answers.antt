use Rattle.lc_bound.specs.OrientedLaws.{oriented_laws}
use Rattle.lc_scene_tests.proofs.oriented.of_one.Goals as goal

pub returns-clause-clump : goal.returns-clause-clump
returns-clause-clump c = rw c.one.ensures (oriented_laws.one_valid c.args.light.now c.requires)
