use Rattle.lc_geom.proofs.CrossingLaws.{volumes_sum}
use Rattle.lc_geom.proofs.CrossingCode.{rest_read}
use Rattle.lc_geom.proofs.crossing.three_volumes.Goals as goal

pub returns-clause-third : goal.returns-clause-third
returns-clause-third c =
    rest_read c.args.start c.args.end c.two_volumes-u.result.0 c.two_volumes-u.result.1 c.rest.result _
    c.requires.most_start c.requires.most_end c.two_volumes-u.ensures.most_first c.two_volumes-u.ensures.most_second c.rest.ensures.most c.rest.ensures.value
    (rw (c.requires.end, c.requires.start, c.two_volumes-u.ensures.first, c.two_volumes-u.ensures.second) (volumes_sum c.args.t.now c.args.p c.args.q))
