use Rattle.std.proofs.Common.{rules}
use Rattle.lc_num.proofs.ExtremeLemmas.{greater_within, max_read}
use Rattle.lc_num.proofs.Triples.{same_vector}
use Rattle.lc_num.proofs.extremes.greater.Goals as goal

pub returns-clause-value : goal.returns-clause-value
returns-clause-value c =
    same_vector _ _ _ _ _ _
    (max_read c.args.a.x c.args.b.x c.max.result (search rules) (search rules) (search rules) c.max.ensures.value)
    (max_read c.args.a.y c.args.b.y c.max-2.result (search rules) (search rules) (search rules) c.max-2.ensures.value)
    (max_read c.args.a.z c.args.b.z c.max-3.result (search rules) (search rules) (search rules) c.max-3.ensures.value)

pub returns-clause-within : goal.returns-clause-within
returns-clause-within c m ha hb = rw (returns-clause-value c) (greater_within m c.args.a c.args.b ha hb)
