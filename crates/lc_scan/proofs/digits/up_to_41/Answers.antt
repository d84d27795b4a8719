use Rattle.std.proofs.Common.{get_or, arith}
use Rattle.lc_scan.proofs.DigitLemmas.{digit_at, digit_is, after_more}
use Rattle.lc_scan.proofs.digits.up_to_41.Goals as goal

pub loop-d-preserved : goal.loop-d-preserved
loop-d-preserved c =
    let d = digit_is (get_or c.args.digits.now c.loop-d.d-index 0) (digit_at c.args.digits.now c.loop-d.d-index c.requires c.loop-d-test.true) in
    omega (arith, after_more 0 c.args.digits.now c.loop-d.d-index c.loop-d-test.true, d.2, c.loop-d.invariant)
