use Rattle.lc_num.proofs.Triples.{same_vector}
use Rattle.lc_sample.proofs.NormalLemmas.{mixed_read}
use Rattle.lc_sample.proofs.normal.blended.Goals as goal

pub returns-clause-value : goal.returns-clause-value
returns-clause-value c =
    let n = c.args.normals.now in
    same_vector _ _ _ _ _ _
    (mixed_read c.mixed.result c.part_of-u.result c.part_of-v.result c.part_of-w.result n.a.x n.b.x n.c.x _ _ _
    c.mixed.ensures.most c.part_of-u.ensures.most c.part_of-v.ensures.most c.part_of-w.ensures.most c.requires.normals.a.x c.requires.normals.b.x c.requires.normals.c.x
    c.part_of-u.ensures.value c.part_of-v.ensures.value c.part_of-w.ensures.value c.mixed.ensures.value)
    (mixed_read c.mixed-2.result c.part_of-u.result c.part_of-v.result c.part_of-w.result n.a.y n.b.y n.c.y _ _ _
    c.mixed-2.ensures.most c.part_of-u.ensures.most c.part_of-v.ensures.most c.part_of-w.ensures.most c.requires.normals.a.y c.requires.normals.b.y c.requires.normals.c.y
    c.part_of-u.ensures.value c.part_of-v.ensures.value c.part_of-w.ensures.value c.mixed-2.ensures.value)
    (mixed_read c.mixed-3.result c.part_of-u.result c.part_of-v.result c.part_of-w.result n.a.z n.b.z n.c.z _ _ _
    c.mixed-3.ensures.most c.part_of-u.ensures.most c.part_of-v.ensures.most c.part_of-w.ensures.most c.requires.normals.a.z c.requires.normals.b.z c.requires.normals.c.z
    c.part_of-u.ensures.value c.part_of-v.ensures.value c.part_of-w.ensures.value c.mixed-3.ensures.value)
