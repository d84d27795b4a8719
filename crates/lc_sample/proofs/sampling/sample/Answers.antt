use Rattle.std.proofs.Common.{subst, sym, ◌∙◌}
use Rattle.lc_rated.specs.Cuts.{IsNear}
use Rattle.lc_sample.specs.Scenes.{IsScene}
use Rattle.lc_sample.specs.Sampled.{light_of}
use Rattle.lc_sample.proofs.SampleLemmas.{sample_none, sample_some, sample_near}
use Rattle.lc_sample.proofs.sampling.sample.Goals as goal

pub returns-in-None-clause-value : goal.returns-in-None-clause-value
returns-in-None-clause-value g c =
    sample_none c.args.ask.size c.args.ask.permille c.args.ask.rule c.args.scene.now c.args.ray c.no_answer.result (sym c.spot_seen.ensures.value ∙ c.in-None.is) c.no_answer.ensures

pub returns-in-None-clause-near : goal.returns-in-None-clause-near
returns-in-None-clause-near g c =
    subst (IsNear (light_of c.args.scene.now c.args.ray)) (sym (returns-in-None-clause-value g c))
    (sample_near c.args.ask.size c.args.ask.permille c.args.ask.rule c.args.scene.now c.args.ray (subst IsScene c.scene.view_is c.scene.invariant.1))

pub returns-in-Some-clause-value : goal.returns-in-Some-clause-value
returns-in-Some-clause-value g c =
    sample_some c.args.ask.size c.args.ask.permille c.args.ask.rule _ c.args.scene.now c.args.ray c.in-Some.spot c.scene.inside.triangles c.cut.result c.scene.invariant.0 c.scene.view_is
    (sym c.spot_seen.ensures.value ∙ c.in-Some.is) c.cut.ensures.value

pub returns-in-Some-clause-near : goal.returns-in-Some-clause-near
returns-in-Some-clause-near g c =
    subst (IsNear (light_of c.args.scene.now c.args.ray)) (sym (returns-in-Some-clause-value g c))
    (sample_near c.args.ask.size c.args.ask.permille c.args.ask.rule c.args.scene.now c.args.ray (subst IsScene c.scene.view_is c.scene.invariant.1))
