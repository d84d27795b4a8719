use Rattle.std.proofs.Common.{rules}
use Rattle.lc_num.proofs.BoxCode.{four_is, four_small}
use Rattle.lc_num.proofs.CrossCode.{least_four_is, least_four_small, products_in_order}
use Rattle.lc_num.proofs.crosses.products.Goals as goal

pub returns-clause-lo : goal.returns-clause-lo
returns-clause-lo c =
    least_four_is c.args.a_lo c.args.a_hi c.args.b_lo c.args.b_hi c.multiples-p.result.lo c.multiples-q.result.lo
    c.min.result
    (search rules) (search rules) (search rules) (search rules) (search rules) (search rules) (search rules)
    c.multiples-p.ensures.lo c.multiples-q.ensures.lo c.min.ensures.value

pub returns-clause-hi : goal.returns-clause-hi
returns-clause-hi c =
    four_is c.args.a_lo c.args.a_hi c.args.b_lo c.args.b_hi c.multiples-p.result.hi c.multiples-q.result.hi c.max.result
    (search rules) (search rules) (search rules) (search rules) (search rules) (search rules) (search rules)
    c.multiples-p.ensures.hi c.multiples-q.ensures.hi c.max.ensures.value

pub returns-clause-order : goal.returns-clause-order
returns-clause-order c =
    products_in_order c.args.a_lo c.args.a_hi c.args.b_lo c.args.b_hi _ _ (returns-clause-lo c) (returns-clause-hi c)

pub returns-clause-lo_most : goal.returns-clause-lo_most
returns-clause-lo_most c =
    least_four_small c.args.a_lo c.args.a_hi c.args.b_lo c.args.b_hi _ c.requires.a_lo c.requires.a_hi c.requires.b_lo
    c.requires.b_hi (returns-clause-lo c)

pub returns-clause-hi_most : goal.returns-clause-hi_most
returns-clause-hi_most c =
    four_small c.args.a_lo c.args.a_hi c.args.b_lo c.args.b_hi _ c.requires.a_lo c.requires.a_hi c.requires.b_lo
    c.requires.b_hi (returns-clause-hi c)
