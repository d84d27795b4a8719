use Rattle.lc_num.proofs.Triples.{same_vector}
use Rattle.lc_sample.proofs.SpotLemmas.{lifted_read}
use Rattle.lc_sample.proofs.spot.off_surface.Goals as goal

pub returns-clause-value : goal.returns-clause-value
returns-clause-value c =
    let place = c.args.place in
    let normal = c.args.normal in
    same_vector _ _ _ _ _ _
    (lifted_read c.lifted.result place.x normal.x c.lifted.ensures.most c.requires.place.x c.requires.normal.x c.lifted.ensures.value)
    (lifted_read c.lifted-2.result place.y normal.y c.lifted-2.ensures.most c.requires.place.y c.requires.normal.y c.lifted-2.ensures.value)
    (lifted_read c.lifted-3.result place.z normal.z c.lifted-3.ensures.most c.requires.place.z c.requires.normal.z c.lifted-3.ensures.value)
