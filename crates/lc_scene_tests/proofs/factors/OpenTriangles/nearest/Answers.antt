use Rattle.std.proofs.Common.{refl}
use Rattle.lc_geom.specs.Hits.{nearest, first}
use Rattle.lc_scene_tests.proofs.factors.OpenTriangles.nearest.Goals as goal

pub returns : goal.returns
unfolding nearest first
returns c = refl
