use Rattle.lc_num.proofs.Triples.{same_vector}
use Rattle.lc_sample.proofs.SpotLemmas.{way_short, coordinate_read}
use Rattle.lc_sample.proofs.spot.place_at.Goals as goal

pub returns-clause-value : goal.returns-clause-value
returns-clause-value c =
    let e = c.args.ray.e in
    let d = c.args.ray.d in
    let he = c.requires.ray.e in
    let end = c.requires.ray.end in
    same_vector _ _ _ _ _ _
    (coordinate_read e.x d.x c.part_at.result c.args.depth he.x (way_short e.x d.x he.x end.x) c.part_at.ensures.most c.part_at.ensures.value)
    (coordinate_read e.y d.y c.part_at-2.result c.args.depth he.y (way_short e.y d.y he.y end.y) c.part_at-2.ensures.most c.part_at-2.ensures.value)
    (coordinate_read e.z d.z c.part_at-3.result c.args.depth he.z (way_short e.z d.z he.z end.z) c.part_at-3.ensures.most c.part_at-3.ensures.value)
