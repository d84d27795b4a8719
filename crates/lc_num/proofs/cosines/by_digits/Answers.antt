use Rattle.std.proofs.Common.{◌≡◌, ◌^◌, ◌+◌, ◌-◌, ◌*◌, ◌%◌, ◌<◌, ◌≤◌, arith, sym}
use Rattle.std.proofs.lemmas.Nat.{mul-le}
use Rattle.std.proofs.Math.Nat.{pow-le-pow_right}
use Rattle.lc_algebra.proofs.Roots.{ratio_root-only}
use Rattle.lc_num.proofs.cosines.by_digits.Goals as goal

pub overflow_mul-next-in-loop-place : goal.overflow_mul-next-in-loop-place
overflow_mul-next-in-loop-place g c =
    let digit : 2 ^ (c.loop-place.place - 1) ≤ 2 ^ 16 = pow-le-pow_right {n = 2} (omega arith) {i = c.loop-place.place - 1} {j = 16} (omega (arith, c.loop-place.auto.place)) in
    let next : c.loop-place.root + 1 * 2 ^ (c.loop-place.place - 1) % 2 ^ 64 ≤ 2 ^ 18 = omega (arith, digit, c.loop-place.invariant.within) in
    record { fits = omega (arith, mul-le _ _ _ _ (mul-le _ _ _ _ next next) c.requires.squares) }

pub returns-clause-value : goal.returns-clause-value
returns-clause-value g c =
    let end : c.loop-place.place ≡ 0 = omega (arith, c.loop-place-test.false) in
    let high : c.args.top < (c.loop-place.root + 2 ^ 0) * (c.loop-place.root + 2 ^ 0) * c.args.squares = rw end at c.loop-place.invariant.high in
    sym (ratio_root-only c.args.squares c.args.top c.loop-place.root c.requires.some c.loop-place.invariant.low (omega (arith, high)))
