use Rattle.std.proofs.Common.{rules}
use Rattle.lc_num.proofs.BoxCode.{four_is, four_small}
use Rattle.lc_num.proofs.boxes.greatest_product.Goals as goal

pub returns-clause-value : goal.returns-clause-value
returns-clause-value c =
    four_is c.args.a_lo c.args.a_hi c.args.b_lo c.args.b_hi c.greater_product.result c.greater_product-2.result c.max.result
    (search rules) (search rules) (search rules) (search rules) (search rules) (search rules) (search rules)
    c.greater_product.ensures.value c.greater_product-2.ensures.value c.max.ensures.value

pub returns-clause-most : goal.returns-clause-most
returns-clause-most c = four_small c.args.a_lo c.args.a_hi c.args.b_lo c.args.b_hi _ c.requires.a_lo c.requires.a_hi c.requires.b_lo c.requires.b_hi (returns-clause-value c)
