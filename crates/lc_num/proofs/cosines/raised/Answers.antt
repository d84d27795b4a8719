use Rattle.std.proofs.Common.{arith, sym}
use Rattle.lc_algebra.proofs.Roots.{ratio_root-only, ratio_root-at_most}
use Rattle.lc_num.proofs.cosines.raised.Goals as goal

pub returns-then-top-root-clause-value : goal.returns-then-top-root-clause-value
returns-then-top-root-clause-value g c =
    sym (ratio_root-only c.args.squares c.args.top c.loop.root c.requires.some c.loop.invariant.low c.if-top-root.true)

pub returns-clause-most : goal.returns-clause-most
returns-clause-most g c =
    rw c.by_digits.ensures.value
    (ratio_root-at_most c.args.squares c.args.top 65536 (omega (arith, c.requires.some, c.requires.top)))
