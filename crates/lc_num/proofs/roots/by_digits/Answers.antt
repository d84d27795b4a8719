use Rattle.std.proofs.Common.{◌≡◌, ◌^◌, ◌+◌, ◌*◌, ◌<◌, arith, sym}
use Rattle.lc_algebra.proofs.Roots.{isqrt-only}
use Rattle.lc_num.proofs.roots.by_digits.Goals as goal

pub returns-clause-value : goal.returns-clause-value
returns-clause-value g c =
    let end : c.loop-place.place ≡ 0 = omega (arith, c.loop-place-test.false) in
    let high : c.args.n < (c.loop-place.root + 2 ^ 0) * (c.loop-place.root + 2 ^ 0) = rw end at c.loop-place.invariant.high in
    sym (isqrt-only c.args.n c.loop-place.root c.loop-place.invariant.low (omega (arith, high)))
