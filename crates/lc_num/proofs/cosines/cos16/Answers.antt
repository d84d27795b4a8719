use Rattle.std.proofs.Common.{rules, ◌∙◌}
use Rattle.lc_num.proofs.CosineLemmas.{cos16_none, cosine_code}
use Rattle.lc_num.proofs.cosines.cos16.Goals as goal

pub returns-then-along-le0-clause-value : goal.returns-then-along-le0-clause-value
returns-then-along-le0-clause-value c = cos16_none c.args.n c.args.b c.short_dot-along.result (search rules) c.short_dot-along.ensures c.if-along-le0.true

pub cosine-requires-clause-along : goal.cosine-requires-clause-along
cosine-requires-clause-along c = (cosine_code c.args.n c.args.b c.short_dot-along.result c.requires (search rules) c.short_dot-along.ensures c.if-along-le0.false).along

pub cosine-requires-clause-squares : goal.cosine-requires-clause-squares
cosine-requires-clause-squares c =
    rw (c.short_square.ensures, c.short_square-2.ensures)
    (cosine_code c.args.n c.args.b c.short_dot-along.result c.requires (search rules) c.short_dot-along.ensures c.if-along-le0.false).squares

pub cosine-requires-clause-some : goal.cosine-requires-clause-some
cosine-requires-clause-some c =
    rw (c.short_square.ensures, c.short_square-2.ensures)
    (cosine_code c.args.n c.args.b c.short_dot-along.result c.requires (search rules) c.short_dot-along.ensures c.if-along-le0.false).some

pub cosine-requires-clause-schwarz : goal.cosine-requires-clause-schwarz
cosine-requires-clause-schwarz c =
    rw (c.short_square.ensures, c.short_square-2.ensures)
    (cosine_code c.args.n c.args.b c.short_dot-along.result c.requires (search rules) c.short_dot-along.ensures c.if-along-le0.false).schwarz

pub returns-clause-value : goal.returns-clause-value
returns-clause-value c =
    let code = cosine_code c.args.n c.args.b c.short_dot-along.result c.requires (search rules) c.short_dot-along.ensures c.if-along-le0.false in
    let e = rw (c.short_square.ensures, c.short_square-2.ensures) at c.cosine.ensures.value in
    e ∙ code.value
