use Rattle.std.proofs.Common.{refl}
use Rattle.lc_rated.proofs.Starting.{holds_nothing, begun, begun_length}
use Rattle.lc_rated.proofs.begin.begin.Goals as goal

pub start-requires-clause-begun : goal.start-requires-clause-begun
start-requires-clause-begun g c =
    holds_nothing (g.T.Lighting.keeps c.args.lighting.now) c.clear.new.self (rw c.clear.ensures refl) (rw c.clear.ensures refl)

pub returns-clause-cut : goal.returns-clause-cut
returns-clause-cut g c =
    begun (g.T.Lighting.keeps c.args.lighting.now) (g.T.Lighting.trees c.args.lighting.now) c.start-3.new.nodes c.start-3.ensures.begun
    (begun_length (g.T.Lighting.keeps c.args.lighting.now) (g.T.Lighting.trees c.args.lighting.now) c.start-3.new.nodes c.start-3.ensures.begun)

pub returns-clause-count : goal.returns-clause-count
returns-clause-count g c =
    begun_length (g.T.Lighting.keeps c.args.lighting.now) (g.T.Lighting.trees c.args.lighting.now) c.start-3.new.nodes c.start-3.ensures.begun
