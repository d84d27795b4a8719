use Rattle.std.proofs.Common.{rules}
use Rattle.lc_num.proofs.ExtremeLemmas.{lesser_within, min_read}
use Rattle.lc_num.proofs.Triples.{same_vector}
use Rattle.lc_num.proofs.extremes.lesser.Goals as goal

pub returns-clause-value : goal.returns-clause-value
returns-clause-value c =
    same_vector _ _ _ _ _ _
    (min_read c.args.a.x c.args.b.x c.min.result (search rules) (search rules) (search rules) c.min.ensures.value)
    (min_read c.args.a.y c.args.b.y c.min-2.result (search rules) (search rules) (search rules) c.min-2.ensures.value)
    (min_read c.args.a.z c.args.b.z c.min-3.result (search rules) (search rules) (search rules) c.min-3.ensures.value)

pub returns-clause-within : goal.returns-clause-within
returns-clause-within c m ha hb = rw (returns-clause-value c) (lesser_within m c.args.a c.args.b ha hb)
