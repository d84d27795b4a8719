use Rattle.lc_num.proofs.CrossCode.{difference_read}
use Rattle.lc_num.proofs.crosses.least_difference.Goals as goal

pub returns-clause-value : goal.returns-clause-value
returns-clause-value c =
    rw (
      difference_read c.args.p.lo c.args.q.hi c.requires.p_lo c.requires.q_hi,
      difference_read c.args.p.hi c.args.q.lo
          c.requires.p_hi c.requires.q_lo,
    )
    at c.least_square.ensures.value
