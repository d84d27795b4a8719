use Rattle.std.proofs.Common.{arith, ℤ, ◌≤ℤ◌}
use Rattle.std.specs.Int.{int_min, int_max}
use Rattle.std.proofs.lemmas.Int.{ints, clamps}
use Rattle.bench_bound.proofs.inputs.around.Goals as goal

in_order : (a b : ℤ) → int_min a b ≤ℤ int_max a b
in_order a b = omega (arith, ints, clamps)

pub invariant_of-result : goal.invariant_of-result
invariant_of-result c =
    rw (c.lesser.ensures.value, c.greater.ensures.value)
    (record { x = in_order c.args.a.x c.args.b.x; y = in_order c.args.a.y c.args.b.y; z = in_order c.args.a.z c.args.b.z })

pub returns : goal.returns
returns c m ha hb = record { lo = c.lesser.ensures.within m ha hb; hi = c.greater.ensures.within m ha hb }
