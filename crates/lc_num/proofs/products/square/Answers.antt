use Rattle.std.proofs.Common.{rules, ap, arith, ◌^◌}
use Rattle.std.specs.Int.RustNames.{unsigned_abs}
use Rattle.std.specs.Int.{w128}
use Rattle.lc_num.proofs.SquareLemmas.{square_read, square_bound}
use Rattle.lc_num.proofs.products.square.Goals as goal

pub overflow_cast-result : goal.overflow_cast-result
overflow_cast-result c =
    rw (square_read w128 c.args.v c.dot.result (search rules) c.dot.ensures)
    (tt, record { fits = omega (arith, square_bound (2 ^ 60) c.args.v c.requires) })

pub returns : goal.returns
returns c = ap unsigned_abs (square_read w128 c.args.v c.dot.result (search rules) c.dot.ensures)
