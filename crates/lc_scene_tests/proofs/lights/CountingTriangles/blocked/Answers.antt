use Rattle.std.proofs.Common.{refl}
use Rattle.lc_geom.specs.Hits.{blocked}
use Rattle.lc_scene_tests.proofs.lights.CountingTriangles.blocked.Goals as goal

pub returns : goal.returns
unfolding blocked
returns c = refl
