use Rattle.std.proofs.Common.{sym}
use Rattle.lc_terms.proofs.Reflecting.{material-dark, material-lit}
use Rattle.lc_bound.specs.Reach.{cosine_top}
use Rattle.lc_bound.proofs.reflection.reflection_top.Goals as goal

pub returns-then-cosine-eq0-clause-none : goal.returns-then-cosine-eq0-clause-none
returns-then-cosine-eq0-clause-none c =
    rw (← c.cosine_top-cosine.ensures.value)
    (sym (material-dark c.args.spot.now c.cosine_top-cosine.result (cosine_top c.args.rule c.args.spot.now.r c.args.span c.args.least) c.if-cosine-eq0.true))

pub returns-clause-value : goal.returns-clause-value
returns-clause-value c =
    rw (← c.cosine_top-cosine.ensures.value)
    (material-lit c.args.spot.now c.cosine_top-cosine.result (cosine_top c.args.rule c.args.spot.now.r c.args.span c.args.least) c.highlight_top-highlight.result c.if-cosine-eq0.false c.highlight_top-highlight.ensures.r c.highlight_top-highlight.ensures.g c.highlight_top-highlight.ensures.b)
