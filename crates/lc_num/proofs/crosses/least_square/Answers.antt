use Rattle.lc_num.proofs.CrossCode.{nearest_read, least_square_is}
use Rattle.lc_num.proofs.crosses.least_square.Goals as goal

pub returns-clause-value : goal.returns-clause-value
returns-clause-value c =
    let e = nearest_read c.args.lo c.args.hi c.max.result c.max-nearest.result c.requires.lo c.requires.hi
    c.max.ensures.value c.max-nearest.ensures.value in
    rw e (least_square_is c.args.lo c.args.hi c.requires.order)
