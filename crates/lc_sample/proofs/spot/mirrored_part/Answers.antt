use Rattle.lc_sample.proofs.SpotLemmas.{whole_fits, whole_is, whole_small}
use Rattle.lc_sample.proofs.spot.mirrored_part.Goals as goal

pub overflow_sub-result : goal.overflow_sub-result
overflow_sub-result c = whole_fits c.args.turned c.args.squared c.args.n c.args.w c.requires.turned c.requires.squared c.requires.n c.requires.w

pub returns-clause-value : goal.returns-clause-value
returns-clause-value c = whole_is c.args.turned c.args.squared c.args.n c.args.w c.requires.turned c.requires.squared c.requires.n c.requires.w

pub returns-clause-most : goal.returns-clause-most
returns-clause-most c =
    rw (returns-clause-value c)
    (whole_small c.args.turned c.args.squared c.args.n c.args.w c.requires.turned c.requires.squared c.requires.n c.requires.w)
