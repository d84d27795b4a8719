use Rattle.std.proofs.Common.{rules, ◌∙◌, ap₂}
use Rattle.lc_num.specs.Boxes.{SpanEnds}
use Rattle.lc_num.specs.Crosses.{least_cross}
use Rattle.lc_num.proofs.CrossCode.{products_are, least_cross_is}
use Rattle.lc_num.proofs.crosses.least_cross_of_boxes.Goals as goal

pub returns-clause-value : goal.returns-clause-value
returns-clause-value c =
    let a = c.a.inside in
    let b = c.b.inside in
    least_cross_is a.lo a.hi b.lo b.hi _ _ _ _ _ _ _ _ _
    (products_are a.lo.y a.hi.y b.lo.z b.hi.z c.products.result (search rules) (search rules) (search rules)
    (search rules) c.products.ensures.lo c.products.ensures.hi)
    (products_are a.lo.z a.hi.z b.lo.y b.hi.y c.products-2.result (search rules) (search rules) (search rules)
    (search rules) c.products-2.ensures.lo c.products-2.ensures.hi)
    (products_are a.lo.z a.hi.z b.lo.x b.hi.x c.products-3.result (search rules) (search rules) (search rules)
    (search rules) c.products-3.ensures.lo c.products-3.ensures.hi)
    (products_are a.lo.x a.hi.x b.lo.z b.hi.z c.products-4.result (search rules) (search rules) (search rules)
    (search rules) c.products-4.ensures.lo c.products-4.ensures.hi)
    (products_are a.lo.x a.hi.x b.lo.y b.hi.y c.products-5.result (search rules) (search rules) (search rules)
    (search rules) c.products-5.ensures.lo c.products-5.ensures.hi)
    (products_are a.lo.y a.hi.y b.lo.x b.hi.x c.products-6.result (search rules) (search rules) (search rules)
    (search rules) c.products-6.ensures.lo c.products-6.ensures.hi)
    c.least_difference-x.ensures.value c.least_difference-y.ensures.value c.least_difference-z.ensures.value
    ∙ ap₂ (λ (a b : SpanEnds). least_cross a b) c.a.view_is c.b.view_is
