use Rattle.std.proofs.Common.{rules, ◌*◌, ◌∙◌, ap}
use Rattle.lc_num.specs.Boxes.{SpanEnds}
use Rattle.lc_num.specs.Crosses.{least_cross}
use Rattle.lc_num.proofs.BoxCode.{product_read}
use Rattle.lc_num.proofs.CrossCode.{crosses_small, multiples_are, least_cross_is}
use Rattle.lc_num.proofs.crosses.least_cross.Goals as goal

pub multiples-requires-2-clause-lo : goal.multiples-requires-2-clause-lo
multiples-requires-2-clause-lo c =
    let s = crosses_small c.args.n (record { lo = c.span.inside.lo; hi = c.span.inside.hi })
    (rw (← c.span.view_is) at c.requires) in
    product_read c.args.n.z c.span.inside.lo.y (16384 * 100_100_000) (search rules) (search rules) s.0.zy

pub multiples-requires-2-clause-hi : goal.multiples-requires-2-clause-hi
multiples-requires-2-clause-hi c =
    let s = crosses_small c.args.n (record { lo = c.span.inside.lo; hi = c.span.inside.hi })
    (rw (← c.span.view_is) at c.requires) in
    product_read c.args.n.z c.span.inside.hi.y (16384 * 100_100_000) (search rules) (search rules) s.1.zy

pub multiples-requires-3-clause-lo : goal.multiples-requires-3-clause-lo
multiples-requires-3-clause-lo c =
    let s = crosses_small c.args.n (record { lo = c.span.inside.lo; hi = c.span.inside.hi })
    (rw (← c.span.view_is) at c.requires) in
    product_read c.args.n.z c.span.inside.lo.x (16384 * 100_100_000) (search rules) (search rules) s.0.zx

pub multiples-requires-3-clause-hi : goal.multiples-requires-3-clause-hi
multiples-requires-3-clause-hi c =
    let s = crosses_small c.args.n (record { lo = c.span.inside.lo; hi = c.span.inside.hi })
    (rw (← c.span.view_is) at c.requires) in
    product_read c.args.n.z c.span.inside.hi.x (16384 * 100_100_000) (search rules) (search rules) s.1.zx

pub multiples-requires-4-clause-lo : goal.multiples-requires-4-clause-lo
multiples-requires-4-clause-lo c =
    let s = crosses_small c.args.n (record { lo = c.span.inside.lo; hi = c.span.inside.hi })
    (rw (← c.span.view_is) at c.requires) in
    product_read c.args.n.x c.span.inside.lo.z (16384 * 100_100_000) (search rules) (search rules) s.0.xz

pub multiples-requires-4-clause-hi : goal.multiples-requires-4-clause-hi
multiples-requires-4-clause-hi c =
    let s = crosses_small c.args.n (record { lo = c.span.inside.lo; hi = c.span.inside.hi })
    (rw (← c.span.view_is) at c.requires) in
    product_read c.args.n.x c.span.inside.hi.z (16384 * 100_100_000) (search rules) (search rules) s.1.xz

pub multiples-requires-5-clause-lo : goal.multiples-requires-5-clause-lo
multiples-requires-5-clause-lo c =
    let s = crosses_small c.args.n (record { lo = c.span.inside.lo; hi = c.span.inside.hi })
    (rw (← c.span.view_is) at c.requires) in
    product_read c.args.n.x c.span.inside.lo.y (16384 * 100_100_000) (search rules) (search rules) s.0.xy

pub multiples-requires-5-clause-hi : goal.multiples-requires-5-clause-hi
multiples-requires-5-clause-hi c =
    let s = crosses_small c.args.n (record { lo = c.span.inside.lo; hi = c.span.inside.hi })
    (rw (← c.span.view_is) at c.requires) in
    product_read c.args.n.x c.span.inside.hi.y (16384 * 100_100_000) (search rules) (search rules) s.1.xy

pub multiples-requires-6-clause-lo : goal.multiples-requires-6-clause-lo
multiples-requires-6-clause-lo c =
    let s = crosses_small c.args.n (record { lo = c.span.inside.lo; hi = c.span.inside.hi })
    (rw (← c.span.view_is) at c.requires) in
    product_read c.args.n.y c.span.inside.lo.x (16384 * 100_100_000) (search rules) (search rules) s.0.yx

pub multiples-requires-6-clause-hi : goal.multiples-requires-6-clause-hi
multiples-requires-6-clause-hi c =
    let s = crosses_small c.args.n (record { lo = c.span.inside.lo; hi = c.span.inside.hi })
    (rw (← c.span.view_is) at c.requires) in
    product_read c.args.n.y c.span.inside.hi.x (16384 * 100_100_000) (search rules) (search rules) s.1.yx

pub returns-clause-value : goal.returns-clause-value
returns-clause-value c =
    let lo = c.span.inside.lo in
    let hi = c.span.inside.hi in
    least_cross_is c.args.n c.args.n lo hi _ _ _ _ _ _ _ _ _
    (multiples_are c.args.n.y lo.z hi.z c.multiples.result (search rules) (search rules) (search rules)
    c.multiples.ensures.lo c.multiples.ensures.hi)
    (multiples_are c.args.n.z lo.y hi.y c.multiples-2.result (search rules) (search rules) (search rules)
    c.multiples-2.ensures.lo c.multiples-2.ensures.hi)
    (multiples_are c.args.n.z lo.x hi.x c.multiples-3.result (search rules) (search rules) (search rules)
    c.multiples-3.ensures.lo c.multiples-3.ensures.hi)
    (multiples_are c.args.n.x lo.z hi.z c.multiples-4.result (search rules) (search rules) (search rules)
    c.multiples-4.ensures.lo c.multiples-4.ensures.hi)
    (multiples_are c.args.n.x lo.y hi.y c.multiples-5.result (search rules) (search rules) (search rules)
    c.multiples-5.ensures.lo c.multiples-5.ensures.hi)
    (multiples_are c.args.n.y lo.x hi.x c.multiples-6.result (search rules) (search rules) (search rules)
    c.multiples-6.ensures.lo c.multiples-6.ensures.hi)
    c.least_difference-x.ensures.value c.least_difference-y.ensures.value c.least_difference-z.ensures.value
    ∙ ap (λ (box : SpanEnds). least_cross (record { lo = c.args.n; hi = c.args.n }) box) c.span.view_is
