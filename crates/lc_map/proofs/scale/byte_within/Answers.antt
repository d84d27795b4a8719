use Rattle.lc_map.proofs.Shares.{byte-between}
use Rattle.lc_map.proofs.scale.byte_within.Goals as goal

pub returns : goal.returns
returns c =
    let kept = c.loop-low.invariant in
    byte-between c.args.ratio c.loop-low.low c.loop-low.high kept.order c.loop-low-test.false kept.most kept.below kept.above
