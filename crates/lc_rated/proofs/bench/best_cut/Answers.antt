use Rattle.lc_rated.proofs.CutSequence.{near, fraction, size_most, evals_most}
use Rattle.lc_rated.proofs.bench.best_cut.Goals as goal

pub returns-clause-near : goal.returns-clause-near
returns-clause-near g c = λ bounded.
    rw c.run.ensures.value (near c.args.size c.args.permille (g.T.Lighting.trees c.args.lighting.now) bounded)

pub returns-clause-fraction : goal.returns-clause-fraction
returns-clause-fraction g c =
    rw c.run.ensures.value (fraction c.args.size c.args.permille (g.T.Lighting.trees c.args.lighting.now) c.requires.least)

pub returns-clause-size : goal.returns-clause-size
returns-clause-size g c =
    rw c.run.ensures.value (size_most c.args.size c.args.permille (g.T.Lighting.trees c.args.lighting.now) c.requires.least)

pub returns-clause-evals : goal.returns-clause-evals
returns-clause-evals g c =
    rw c.run.ensures.value (evals_most c.args.size c.args.permille (g.T.Lighting.trees c.args.lighting.now) c.requires.least)
