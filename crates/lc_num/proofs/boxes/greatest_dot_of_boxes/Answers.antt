use Rattle.std.proofs.Common.{rules, ◌∙◌, ap₂}
use Rattle.lc_num.specs.Boxes.{SpanEnds, greatest_dot_of_boxes}
use Rattle.lc_num.proofs.BoxCode.{four_read, greatest_of_boxes_is}
use Rattle.lc_num.proofs.boxes.greatest_dot_of_boxes.Goals as goal

pub returns-clause-value : goal.returns-clause-value
returns-clause-value c =
    greatest_of_boxes_is c.a.inside.lo c.a.inside.hi c.b.inside.lo c.b.inside.hi c.greatest_product.result c.greatest_product-2.result c.greatest_product-3.result
    c.greatest_product.ensures.most c.greatest_product-2.ensures.most c.greatest_product-3.ensures.most
    (four_read c.a.inside.lo.x c.a.inside.hi.x c.b.inside.lo.x c.b.inside.hi.x c.greatest_product.result (search rules) (search rules) (search rules) (search rules) c.greatest_product.ensures.value)
    (four_read c.a.inside.lo.y c.a.inside.hi.y c.b.inside.lo.y c.b.inside.hi.y c.greatest_product-2.result (search rules) (search rules) (search rules) (search rules) c.greatest_product-2.ensures.value)
    (four_read c.a.inside.lo.z c.a.inside.hi.z c.b.inside.lo.z c.b.inside.hi.z c.greatest_product-3.result (search rules) (search rules) (search rules) (search rules) c.greatest_product-3.ensures.value)
    ∙ ap₂ (λ (a b : SpanEnds). greatest_dot_of_boxes a b) c.a.view_is c.b.view_is
