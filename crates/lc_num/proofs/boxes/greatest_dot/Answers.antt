use Rattle.std.proofs.Common.{rules, ◌*◌, ◌∙◌, ap}
use Rattle.lc_num.specs.Boxes.{SpanEnds, greatest_dot}
use Rattle.lc_num.proofs.BoxLemmas.{ends_small}
use Rattle.lc_num.proofs.BoxCode.{greatest_is, max_read, product_read}
use Rattle.lc_num.proofs.boxes.greatest_dot.Goals as goal

pub greater_product-requires-2-clause-lo : goal.greater_product-requires-2-clause-lo
greater_product-requires-2-clause-lo c = let s = ends_small c.args.n (record { lo = c.span.inside.lo; hi = c.span.inside.hi }) (rw (← c.span.view_is) at c.requires) in product_read c.args.n.y c.span.inside.lo.y (16384 * 100_100_000) (search rules) (search rules) s.y.0

pub greater_product-requires-2-clause-hi : goal.greater_product-requires-2-clause-hi
greater_product-requires-2-clause-hi c = let s = ends_small c.args.n (record { lo = c.span.inside.lo; hi = c.span.inside.hi }) (rw (← c.span.view_is) at c.requires) in product_read c.args.n.y c.span.inside.hi.y (16384 * 100_100_000) (search rules) (search rules) s.y.1

pub greater_product-requires-3-clause-lo : goal.greater_product-requires-3-clause-lo
greater_product-requires-3-clause-lo c = let s = ends_small c.args.n (record { lo = c.span.inside.lo; hi = c.span.inside.hi }) (rw (← c.span.view_is) at c.requires) in product_read c.args.n.z c.span.inside.lo.z (16384 * 100_100_000) (search rules) (search rules) s.z.0

pub greater_product-requires-3-clause-hi : goal.greater_product-requires-3-clause-hi
greater_product-requires-3-clause-hi c = let s = ends_small c.args.n (record { lo = c.span.inside.lo; hi = c.span.inside.hi }) (rw (← c.span.view_is) at c.requires) in product_read c.args.n.z c.span.inside.hi.z (16384 * 100_100_000) (search rules) (search rules) s.z.1

pub returns-clause-value : goal.returns-clause-value
returns-clause-value c =
    greatest_is c.args.n c.span.inside.lo c.span.inside.hi c.greater_product.result c.greater_product-2.result c.greater_product-3.result
    c.greater_product.ensures.most c.greater_product-2.ensures.most c.greater_product-3.ensures.most
    (max_read c.args.n.x c.span.inside.lo.x c.span.inside.hi.x c.greater_product.result (search rules) (search rules) (search rules) c.greater_product.ensures.value)
    (max_read c.args.n.y c.span.inside.lo.y c.span.inside.hi.y c.greater_product-2.result (search rules) (search rules) (search rules) c.greater_product-2.ensures.value)
    (max_read c.args.n.z c.span.inside.lo.z c.span.inside.hi.z c.greater_product-3.result (search rules) (search rules) (search rules) c.greater_product-3.ensures.value)
    ∙ ap (λ (box : SpanEnds). greatest_dot c.args.n box) c.span.view_is
