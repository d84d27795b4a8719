use Rattle.std.proofs.Common.{arith, sym}
use Rattle.lc_algebra.proofs.Roots.{isqrt-only}
use Rattle.lc_num.proofs.roots.raised.Goals as goal

pub returns-then-n-root-clause-value : goal.returns-then-n-root-clause-value
returns-then-n-root-clause-value g c =
    let below = c.if-n-root.true in
    sym (isqrt-only c.args.n c.loop.root c.loop.invariant.low (omega arith))
