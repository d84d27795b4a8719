use Rattle.std.proofs.Common.{rules, ◌*ℤ◌}
use Rattle.lc_num.proofs.BoxCode.{greater_is, greater_small}
use Rattle.lc_num.proofs.CrossCode.{lesser_is, lesser_small, ends_in_order}
use Rattle.lc_num.proofs.crosses.multiples.Goals as goal

pub returns-clause-lo : goal.returns-clause-lo
returns-clause-lo c =
    lesser_is c.args.n c.args.lo c.args.hi c.min.result c.ranges.n c.ranges.lo c.ranges.hi (search rules)
    c.requires.lo c.requires.hi c.min.ensures.value

pub returns-clause-hi : goal.returns-clause-hi
returns-clause-hi c =
    greater_is c.args.n c.args.lo c.args.hi c.max.result c.ranges.n c.ranges.lo c.ranges.hi (search rules)
    c.requires.lo c.requires.hi c.max.ensures.value

pub returns-clause-order : goal.returns-clause-order
returns-clause-order c =
    ends_in_order (c.args.n *ℤ c.args.lo) (c.args.n *ℤ c.args.hi) _ _ (returns-clause-lo c) (returns-clause-hi c)

pub returns-clause-lo_most : goal.returns-clause-lo_most
returns-clause-lo_most c = lesser_small c.args.n c.args.lo c.args.hi _ c.requires.lo c.requires.hi (returns-clause-lo c)

pub returns-clause-hi_most : goal.returns-clause-hi_most
returns-clause-hi_most c =
    greater_small c.args.n c.args.lo c.args.hi _ c.requires.lo c.requires.hi (returns-clause-hi c)
