use Rattle.std.proofs.Common.{inl, arith}
use Rattle.lc_bound.specs.HullLaws.{box_from-within}
use Rattle.lc_bound.proofs.omni.OmniKindKind.top.Goals as goal

pub reflection_top-requires-clause-normal : goal.reflection_top-requires-clause-normal
reflection_top-requires-clause-normal c =
    let valid = rw (← c.clump.view_is) at c.requires.clump in
    rw c.box_from.ensures (inl (c.requires.spot.n, box_from-within 50_100_000 50_000_000 c.args.spot.now.x c.clump.inside.span c.requires.spot.x valid.box))

pub reflection_top-requires-clause-mirrored : goal.reflection_top-requires-clause-mirrored
reflection_top-requires-clause-mirrored c =
    let valid = rw (← c.clump.view_is) at c.requires.clump in
    rw c.box_from.ensures (inl (c.requires.spot.r, box_from-within 50_100_000 50_000_000 c.args.spot.now.x c.clump.inside.span c.requires.spot.x valid.box))

pub reflection_top-requires-clause-least : goal.reflection_top-requires-clause-least
reflection_top-requires-clause-least c =
    let valid = rw (← c.clump.view_is) at c.requires.clump in
    c.near2-near.ensures.within 50_100_000 50_000_000 c.requires.spot.x valid.box

pub overflow_cast-near : goal.overflow_cast-near
overflow_cast-near c =
    let valid = rw (← c.clump.view_is) at c.requires.clump in
    record { fits = omega (arith, c.near2-near.ensures.within 50_100_000 50_000_000 c.requires.spot.x valid.box) }
