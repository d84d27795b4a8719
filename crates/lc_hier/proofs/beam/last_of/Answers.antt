use Rattle.lc_hier.proofs.BeamCode.{last_is}
use Rattle.lc_hier.proofs.beam.last_of.Goals as goal

pub returns : goal.returns
returns c = last_is c.args.most c.args.shift c.requires.most c.requires.shift
