use Rattle.std.proofs.Common.{◌^◌, ◌<◌, arith, ap₂, ◌∙◌}
use Rattle.std.specs.Int.RustNames.{unsigned_abs}
use Rattle.lc_num.specs.Vectors.{dot}
use Rattle.lc_num.proofs.Triples.{dot_bound}
use Rattle.lc_geom.specs.Crossing.{side}
use Rattle.lc_geom.proofs.CrossingCode.{read_short}
use Rattle.lc_geom.proofs.crossing.side.Goals as goal

small : (c : goal.After-dot) → unsigned_abs c.dot.result < 2 ^ 87
small c =
    let way = c.difference.ensures.within 320_000_000 50_000_000 c.requires.p c.requires.t.a in
    rw c.dot.ensures (omega (arith, dot_bound (2 ^ 55) 370_000_000 c.args.outward c.difference.result c.requires.small way))

pub returns-clause-value : goal.returns-clause-value
unfolding side
returns-clause-value c = read_short c.dot.result (small c) ∙ c.dot.ensures ∙ ap₂ (λ u v. dot u v) c.requires.outward c.difference.ensures.value

pub returns-clause-most : goal.returns-clause-most
returns-clause-most c = rw (read_short c.dot.result (small c)) (small c)
