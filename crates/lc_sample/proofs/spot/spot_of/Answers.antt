use Rattle.lc_sample.specs.Scenes.{triangles_of}
use Rattle.lc_sample.proofs.HitLemmas.{hit_crosses, hit_small}
use Rattle.lc_sample.proofs.spot.spot_of.Goals as goal

pub spot_on-requires-clause-depth : goal.spot_on-requires-clause-depth
spot_on-requires-clause-depth c = hit_small (triangles_of c.args.scene.now) c.args.ray c.args.hit c.requires.hit

pub spot_on-requires-clause-crosses : goal.spot_on-requires-clause-crosses
spot_on-requires-clause-crosses c = hit_crosses c.args.scene.now.surfaces c.args.ray c.args.hit c.surface.result c.requires.hit c.surface.ensures.value
