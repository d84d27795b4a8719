use Rattle.std.proofs.Common.{Some, None}
use Rattle.lc_sample.specs.Scenes.{triangles_of}
use Rattle.lc_sample.proofs.HitLemmas.{nearest_is_hit}
use Rattle.lc_sample.proofs.SampleLemmas.{nearest_kept, nothing_seen, hit_seen}
use Rattle.lc_sample.proofs.sampling.spot_seen.Goals as goal

pub spot_of-requires-clause-hit : goal.spot_of-requires-clause-hit
spot_of-requires-clause-hit c =
    nearest_is_hit (triangles_of c.args.scene.now) c.args.ray c.in-Some.hit
    (nearest_kept _ c.args.scene.now c.args.ray c.scene.inside.triangles c.nearest.result (Some c.in-Some.hit) c.scene.invariant.0 c.scene.view_is c.nearest.ensures c.in-Some.is)

pub returns-in-None-clause-value : goal.returns-in-None-clause-value
returns-in-None-clause-value c =
    nothing_seen c.args.scene.now c.args.ray
    (nearest_kept _ c.args.scene.now c.args.ray c.scene.inside.triangles c.nearest.result None c.scene.invariant.0 c.scene.view_is c.nearest.ensures c.in-None.is)

pub returns-in-Some-clause-value : goal.returns-in-Some-clause-value
returns-in-Some-clause-value c =
    hit_seen c.args.scene.now c.args.ray c.in-Some.hit c.spot_of.result
    (nearest_kept _ c.args.scene.now c.args.ray c.scene.inside.triangles c.nearest.result (Some c.in-Some.hit) c.scene.invariant.0 c.scene.view_is c.nearest.ensures c.in-Some.is)
    c.spot_of.ensures.value
