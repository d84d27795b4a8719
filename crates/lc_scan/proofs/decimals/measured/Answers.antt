use Rattle.std.proofs.Common.{true, false, arith}
use Rattle.std.proofs.lemmas.Int.{ints}
use Rattle.lc_scan.proofs.DecimalLemmas.{long_digits, long_exponent, out_of_range, in_range}
use Rattle.lc_scan.proofs.decimals.measured.Goals as goal
use Rattle.lc_scan.proofs.decimals.measured.Goals.{then-p-gt30-via-then-p-gt30, then-p-gt30-via-else-p-gt30+then-exponent-gt40}

pub returns-then-p-gt30 : goal.returns-then-p-gt30
returns-then-p-gt30 c =
    elim c.then-p-gt30.branch [
      | then-p-gt30-via-then-p-gt30 w ↦ rw (← c.p.view_is) (long_digits _ w.if-p-gt30.true)
      | then-p-gt30-via-else-p-gt30+then-exponent-gt40 w ↦ rw (← c.p.view_is) (long_exponent _ c.exponent_up_to_41-exponent.result c.exponent_up_to_41-exponent.ensures w.if-exponent-gt40.true)
    ]

pub returns-then-size-gt-MOST : goal.returns-then-size-gt-MOST
returns-then-size-gt-MOST c =
    let size = rw (← c.p.view_is) at c.size_up_to_most-size.ensures in
    rw (← c.p.view_is)
    (out_of_range _ c.exponent_up_to_41-exponent.result c.size_up_to_most-size.result
    (record { digits = c.if-p-gt30.false; exponent_is = c.exponent_up_to_41-exponent.ensures; small = c.if-exponent-gt40.false; size_is = size }) c.if-size-gt-MOST.true)

pub returns-then-p : goal.returns-then-p
returns-then-p c =
    let size = rw (← c.p.view_is) at c.size_up_to_most-size.ensures in
    rw (← c.p.view_is)
    (in_range _ c.exponent_up_to_41-exponent.result c.size_up_to_most-size.result true _
    (record { digits = c.if-p-gt30.false; exponent_is = c.exponent_up_to_41-exponent.ensures; small = c.if-exponent-gt40.false; size_is = size }) c.if-size-gt-MOST.false c.if-p.true (omega (arith, ints)))

pub returns-else-p : goal.returns-else-p
returns-else-p c =
    let size = rw (← c.p.view_is) at c.size_up_to_most-size.ensures in
    rw (← c.p.view_is)
    (in_range _ c.exponent_up_to_41-exponent.result c.size_up_to_most-size.result false _
    (record { digits = c.if-p-gt30.false; exponent_is = c.exponent_up_to_41-exponent.ensures; small = c.if-exponent-gt40.false; size_is = size }) c.if-size-gt-MOST.false c.if-p.false (omega (arith, ints)))
