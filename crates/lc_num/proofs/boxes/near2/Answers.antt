use Rattle.std.proofs.Common.{◌∙◌, ap}
use Rattle.lc_num.specs.Boxes.{SpanEnds, near2, nearest}
use Rattle.lc_num.proofs.BoxLemmas.{nearest-inside, near2-least, near2-small}
use Rattle.lc_num.proofs.BoxCode.{near_code}
use Rattle.lc_num.proofs.boxes.near2.Goals as goal

pub returns-clause-value : goal.returns-clause-value
returns-clause-value c =
    near_code c.args.x c.span.inside.lo c.span.inside.hi c.gap-a.result c.gap-b.result c.gap-c.result c.requires.x (rw (← c.span.view_is) at c.requires.span) c.gap-a.ensures.value c.gap-b.ensures.value c.gap-c.ensures.value
    ∙ ap (λ (box : SpanEnds). near2 c.args.x box) c.span.view_is

pub returns-clause-reached : goal.returns-clause-reached
unfolding near2
returns-clause-reached c = (nearest c.args.x c.args.span, rw (← c.span.view_is) (nearest-inside c.args.x _ c.span.invariant), returns-clause-value c)

pub returns-clause-least : goal.returns-clause-least
returns-clause-least c p h = rw (returns-clause-value c) (near2-least c.args.x c.args.span p h)

pub returns-clause-within : goal.returns-clause-within
returns-clause-within c m n hx hb = rw (returns-clause-value c) (near2-small m n c.args.x c.args.span hx hb)
