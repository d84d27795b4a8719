use Rattle.std.proofs.Common.{sym, ◌∙◌}
use Rattle.lc_sample.proofs.SampleLemmas.{light_none, light_some}
use Rattle.lc_sample.proofs.plain.plain_sample.Goals as goal

pub returns-in-None-clause-value : goal.returns-in-None-clause-value
returns-in-None-clause-value c = light_none c.args.scene.now c.args.ray (sym c.spot_seen.ensures.value ∙ c.in-None.is)

pub returns-in-Some-clause-value : goal.returns-in-Some-clause-value
returns-in-Some-clause-value c =
    light_some _ c.args.scene.now c.args.ray c.in-Some.spot c.scene.inside.triangles c.plain_at.result c.scene.invariant.0 c.scene.view_is
    (sym c.spot_seen.ensures.value ∙ c.in-Some.is) c.plain_at.ensures.value
