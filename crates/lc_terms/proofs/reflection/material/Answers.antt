use Rattle.std.proofs.Common.{◌∙◌}
use Rattle.lc_num.specs.Cosines.{cos16}
use Rattle.lc_terms.proofs.Reflecting.{material-dark, material-lit}
use Rattle.lc_terms.proofs.reflection.material.Goals as goal

pub returns-then-cosine-eq0-clause-value : goal.returns-then-cosine-eq0-clause-value
returns-then-cosine-eq0-clause-value c =
    rw (← c.cos16-cosine.ensures.value) (material-dark c.args.spot.now c.cos16-cosine.result (cos16 c.args.spot.now.r c.args.b) c.if-cosine-eq0.true)

pub returns-clause-value : goal.returns-clause-value
returns-clause-value c =
    rw (← c.cos16-cosine.ensures.value)
    (c.reflected.ensures.value
    ∙ material-lit c.args.spot.now c.cos16-cosine.result (cos16 c.args.spot.now.r c.args.b) c.highlight.result c.if-cosine-eq0.false c.highlight.ensures.r c.highlight.ensures.g c.highlight.ensures.b)
