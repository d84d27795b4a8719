use Rattle.std.proofs.Common.{ap, ◌∙◌, arith}
use Rattle.lc_rated.specs.Cuts.{answer}
use Rattle.lc_cut.specs.Forest.{trees_of}
use Rattle.lc_tool.specs.Outcome.{probe_scene, probe_size, probe_permille, probe_rule, probe_spot, probe_answer}
use Rattle.lc_tool.proofs.probe.answer_at.Goals as goal

pub returns-clause-value : goal.returns-clause-value
unfolding probe_answer
returns-clause-value g c =
    c.cut.ensures.value
    ∙ ap (λ scene. answer probe_size probe_permille (trees_of scene c.spot_at-spot.result probe_rule c.in_ok-forest.forest)) (c.new-scene.ensures ∙ c.new-2.ensures)
    ∙ ap (λ spot. answer probe_size probe_permille (trees_of probe_scene spot probe_rule c.in_ok-forest.forest)) c.spot_at-spot.ensures.value
    ∙ ap (λ forest. answer probe_size probe_permille (trees_of probe_scene (probe_spot c.args.place c.args.direction) probe_rule forest)) c.in_ok-forest.ensures.value

pub returns-clause-sample : goal.returns-clause-sample
returns-clause-sample g c =
    let size = c.cut.ensures.size in
    let evals = c.cut.ensures.evals in
    record { size = omega arith; evals = omega arith; est = c.cut.ensures.est; bound = c.cut.ensures.bound }
