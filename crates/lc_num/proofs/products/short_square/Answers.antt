use Rattle.std.proofs.Common.{rules, ap, arith, ◌^◌}
use Rattle.std.specs.Int.RustNames.{unsigned_abs}
use Rattle.std.specs.Int.{w64}
use Rattle.lc_num.proofs.SquareLemmas.{square_read, square_bound}
use Rattle.lc_num.proofs.products.short_square.Goals as goal

pub overflow_cast-result : goal.overflow_cast-result
overflow_cast-result c =
    rw (square_read w64 c.args.v c.short_dot.result (search rules) c.short_dot.ensures)
    (tt, record { fits = omega (arith, square_bound (2 ^ 30) c.args.v c.requires) })

pub returns : goal.returns
returns c = ap unsigned_abs (square_read w64 c.args.v c.short_dot.result (search rules) c.short_dot.ensures)
