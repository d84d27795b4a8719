use Rattle.std.proofs.Common.{ap, subst, ◌∙◌}
use Rattle.lc_rated.specs.Cuts.{IsNear, answer}
use Rattle.lc_cut.specs.Contribution.{plain}
use Rattle.lc_cut.specs.Forest.{lights_of, trees_of}
use Rattle.lc_cut.proofs.Whole.{trees_bounded, trees_limited, trees_full}
use Rattle.lc_cut.proofs.SumLimits.{answer_est_within, answer_bound_within}
use Rattle.lc_cut.proofs.forest.cut.Goals as goal

pub best_cut-requires-clause-limited : goal.best_cut-requires-clause-limited
best_cut-requires-clause-limited g c = trees_limited (g.T.Triangles.list c.args.scene.now) c.args.spot.now c.requires.spot c.args.ask.rule _ c.forest.invariant

pub returns-clause-value : goal.returns-clause-value
returns-clause-value g c =
    c.best_cut.ensures.value ∙ ap (λ f. answer c.args.ask.size c.args.ask.permille (trees_of (g.T.Triangles.list c.args.scene.now) c.args.spot.now c.args.ask.rule f)) c.forest.view_is

pub returns-clause-near : goal.returns-clause-near
returns-clause-near g c =
    subst (λ f. IsNear (plain (g.T.Triangles.list c.args.scene.now) c.args.spot.now (lights_of f)) c.best_cut.result) c.forest.view_is
    (subst (λ light. IsNear light c.best_cut.result) (trees_full (g.T.Triangles.list c.args.scene.now) c.args.spot.now c.requires.spot c.args.ask.rule _ c.forest.invariant)
    (c.best_cut.ensures.near (trees_bounded (g.T.Triangles.list c.args.scene.now) c.args.spot.now c.requires.spot c.args.ask.rule _ c.forest.invariant)))

pub returns-clause-est : goal.returns-clause-est
returns-clause-est g c =
    rw c.best_cut.ensures.value (answer_est_within c.args.ask.size c.args.ask.permille _ (trees_limited (g.T.Triangles.list c.args.scene.now) c.args.spot.now c.requires.spot c.args.ask.rule _ c.forest.invariant))

pub returns-clause-bound : goal.returns-clause-bound
returns-clause-bound g c =
    rw c.best_cut.ensures.value (answer_bound_within c.args.ask.size c.args.ask.permille _ (trees_limited (g.T.Triangles.list c.args.scene.now) c.args.spot.now c.requires.spot c.args.ask.rule _ c.forest.invariant))
