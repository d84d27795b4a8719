use Rattle.std.proofs.Common.{rules}
use Rattle.lc_num.proofs.BoxCode.{greater_is, greater_small}
use Rattle.lc_num.proofs.boxes.greater_product.Goals as goal

pub returns-clause-value : goal.returns-clause-value
returns-clause-value c = greater_is c.args.n c.args.lo c.args.hi c.max.result c.ranges.n c.ranges.lo c.ranges.hi (search rules) c.requires.lo c.requires.hi c.max.ensures.value

pub returns-clause-most : goal.returns-clause-most
returns-clause-most c = greater_small c.args.n c.args.lo c.args.hi _ c.requires.lo c.requires.hi (returns-clause-value c)
