use Rattle.std.proofs.Common.{◌≡◌, inl, arith}
use Rattle.lc_num.specs.Boxes.{near2}
use Rattle.lc_bound.specs.Hull.{box_from, box_to}
use Rattle.lc_bound.specs.HullLaws.{box_from-within, box_to-within}
use Rattle.lc_bound.specs.Reach.{emission_top, falloff, material_top}
use Rattle.lc_bound.proofs.CodeLemmas.{dark_top}
use Rattle.lc_bound.proofs.oriented.OrientedKindKind.top.Goals as goal

pub reflection_top-requires-clause-normal : goal.reflection_top-requires-clause-normal
reflection_top-requires-clause-normal c =
    let valid = rw (← c.clump.view_is) at c.requires.clump in
    rw c.box_from.ensures (inl (c.requires.spot.n, box_from-within 50_100_000 50_000_000 c.args.spot.now.x c.clump.inside.span c.requires.spot.x valid.box))

pub reflection_top-requires-clause-mirrored : goal.reflection_top-requires-clause-mirrored
reflection_top-requires-clause-mirrored c =
    let valid = rw (← c.clump.view_is) at c.requires.clump in
    rw c.box_from.ensures (inl (c.requires.spot.r, box_from-within 50_100_000 50_000_000 c.args.spot.now.x c.clump.inside.span c.requires.spot.x valid.box))

pub reflection_top-requires-clause-least : goal.reflection_top-requires-clause-least
reflection_top-requires-clause-least c =
    let valid = rw (← c.clump.view_is) at c.requires.clump in
    c.near2-near.ensures.within 50_100_000 50_000_000 c.requires.spot.x valid.box

pub emission_top-emission-requires-clause-offsets : goal.emission_top-emission-requires-clause-offsets
emission_top-emission-requires-clause-offsets c =
    let valid = rw (← c.clump.view_is) at c.requires.clump in
    rw c.box_to-offsets.ensures (box_to-within 50_100_000 50_000_000 c.args.spot.now.x c.clump.inside.span c.requires.spot.x valid.box)

pub emission_top-emission-requires-clause-least_d : goal.emission_top-emission-requires-clause-least_d
emission_top-emission-requires-clause-least_d c =
    let valid = rw (← c.clump.view_is) at c.requires.clump in
    c.near2-near.ensures.within 50_100_000 50_000_000 c.requires.spot.x valid.box

pub returns-then-emission-eq0 : goal.returns-then-emission-eq0
returns-then-emission-eq0 c =
    let e = rw (c.box_to-offsets.ensures, c.near2-near.ensures.value) at c.emission_top-emission.ensures.value in
    let none : emission_top c.args.rule c.clump.inside.normals c.clump.inside.least (box_to c.args.spot.now.x c.clump.inside.span) (near2 c.args.spot.now.x c.clump.inside.span) ≡ 0 = cc in
    rw (← c.clump.view_is)
    (dark_top (emission_top c.args.rule c.clump.inside.normals c.clump.inside.least (box_to c.args.spot.now.x c.clump.inside.span) (near2 c.args.spot.now.x c.clump.inside.span)) (falloff (near2 c.args.spot.now.x c.clump.inside.span)) (material_top c.args.spot.now (box_from c.args.spot.now.x c.clump.inside.span) (near2 c.args.spot.now.x c.clump.inside.span) c.args.rule) c.clump.inside.total none)

pub overflow_cast-near : goal.overflow_cast-near
overflow_cast-near c =
    let valid = rw (← c.clump.view_is) at c.requires.clump in
    record { fits = omega (arith, c.near2-near.ensures.within 50_100_000 50_000_000 c.requires.spot.x valid.box) }
