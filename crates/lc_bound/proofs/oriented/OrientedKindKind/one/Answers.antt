use Rattle.std.proofs.Common.{arith}
use Rattle.lc_num.proofs.SquareLemmas.{square_bound}
use Rattle.lc_bound.proofs.oriented.OrientedKindKind.one.Goals as goal

pub overflow_cast-result : goal.overflow_cast-result
overflow_cast-result c = rw c.short_square.ensures (record { fits = omega (arith, square_bound 16384 c.args.light.now.normal c.requires.normal) })
