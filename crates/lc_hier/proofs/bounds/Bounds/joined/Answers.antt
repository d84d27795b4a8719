use Rattle.std.proofs.Common.{rules}
use Rattle.lc_num.proofs.Triples.{same_vector}
use Rattle.lc_hier.proofs.BoundsLaws.{min_read, max_read, covers_both, covered}
use Rattle.lc_hier.proofs.bounds.Bounds.joined.Goals as goal

pub returns-clause-low : goal.returns-clause-low
returns-clause-low c =
    same_vector _ _ _ _ _ _
    (min_read c.args.self.low.x c.args.other.low.x c.min.result (search rules) (search rules) (search rules) c.min.ensures.value)
    (min_read c.args.self.low.y c.args.other.low.y c.min-2.result (search rules) (search rules) (search rules) c.min-2.ensures.value)
    (min_read c.args.self.low.z c.args.other.low.z c.min-3.result (search rules) (search rules) (search rules) c.min-3.ensures.value)

pub returns-clause-high : goal.returns-clause-high
returns-clause-high c =
    same_vector _ _ _ _ _ _
    (max_read c.args.self.high.x c.args.other.high.x c.max.result (search rules) (search rules) (search rules) c.max.ensures.value)
    (max_read c.args.self.high.y c.args.other.high.y c.max-2.result (search rules) (search rules) (search rules) c.max-2.ensures.value)
    (max_read c.args.self.high.z c.args.other.high.z c.max-3.result (search rules) (search rules) (search rules) c.max-3.ensures.value)

pub returns-clause-first : goal.returns-clause-first
returns-clause-first c t h = covered _ c.args.self t (covers_both _ c.args.self c.args.other (returns-clause-low c) (returns-clause-high c)).0 h

pub returns-clause-second : goal.returns-clause-second
returns-clause-second c t h = covered _ c.args.other t (covers_both _ c.args.self c.args.other (returns-clause-low c) (returns-clause-high c)).1 h
