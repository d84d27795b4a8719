use Rattle.std.proofs.Common.{length, get_or, arith}
use Rattle.lc_scan.proofs.DigitLemmas.{digit_at, digit_is, after_more, room_for}
use Rattle.lc_scan.proofs.digits.digits_value_after.Goals as goal

pub overflow_mul-value : goal.overflow_mul-value
overflow_mul-value c =
    let r = room_for c.loop-d.value c.args.before c.loop-d.d-index (length c.args.digits.now) 0 c.loop-d.invariant.1 c.loop-d-test.true c.requires.few (omega arith) in
    omega (arith, r.1)

pub overflow_add-value : goal.overflow_add-value
overflow_add-value c =
    let d = digit_is (get_or c.args.digits.now c.loop-d.d-index 0) (digit_at c.args.digits.now c.loop-d.d-index c.requires.digits c.loop-d-test.true) in
    let r = room_for c.loop-d.value c.args.before c.loop-d.d-index (length c.args.digits.now) c.from.result c.loop-d.invariant.1 c.loop-d-test.true c.requires.few (omega (arith, d.1)) in
    omega (arith, r.1)

pub loop-d-preserved : goal.loop-d-preserved
loop-d-preserved c =
    let d = digit_is (get_or c.args.digits.now c.loop-d.d-index 0) (digit_at c.args.digits.now c.loop-d.d-index c.requires.digits c.loop-d-test.true) in
    let r = room_for c.loop-d.value c.args.before c.loop-d.d-index (length c.args.digits.now) c.from.result c.loop-d.invariant.1 c.loop-d-test.true c.requires.few (omega (arith, d.1)) in
    (omega (arith, after_more c.args.number c.args.digits.now c.loop-d.d-index c.loop-d-test.true, d.2, c.loop-d.invariant.0), r.0)
