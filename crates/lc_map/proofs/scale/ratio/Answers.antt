use Rattle.std.proofs.Common.{arith}
use Rattle.lc_map.proofs.Shares.{ratio-below, ratio-high, ratio-low}
use Rattle.lc_map.proofs.scale.ratio.Goals as goal

pub returns-then-bound-est : goal.returns-then-bound-est
returns-then-bound-est c = ratio-high c.args.est c.args.bound c.requires.some c.if-bound-est.true

pub overflow_cast-result : goal.overflow_cast-result
overflow_cast-result c =
    omega (arith, ratio-low c.args.est c.args.bound c.requires.some c.if-bound-est.false, ratio-below c.args.est c.args.bound c.requires.some c.if-bound-est.false)

pub returns : goal.returns
returns c = ratio-low c.args.est c.args.bound c.requires.some c.if-bound-est.false
