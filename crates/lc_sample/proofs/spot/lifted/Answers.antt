use Rattle.lc_sample.proofs.SpotLemmas.{lifted_is}
use Rattle.lc_sample.proofs.spot.lifted.Goals as goal

pub returns-clause-value : goal.returns-clause-value
returns-clause-value c =
    lifted_is c.args.at c.args.normal c.lift.result c.clamp.result c.requires.at c.requires.normal c.lift.ensures.most c.lift.ensures.value c.clamp.ensures.value
