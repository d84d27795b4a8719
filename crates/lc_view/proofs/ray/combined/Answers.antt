use Rattle.lc_num.proofs.Triples.{same_vector}
use Rattle.lc_view.proofs.RayLemmas.{component_read}
use Rattle.lc_view.proofs.ray.combined.Goals as goal

pub returns-clause-value : goal.returns-clause-value
returns-clause-value c =
    let basis = c.args.basis.now in
    same_vector _ _ _ _ _ _
    (component_read basis.forward.x c.args.depth basis.right.x c.args.x basis.up.x c.args.y c.requires.forward.x c.requires.depth c.requires.right.x c.requires.x c.requires.up.x c.requires.y c.component.result c.component.ensures.most c.component.ensures.value)
    (component_read basis.forward.y c.args.depth basis.right.y c.args.x basis.up.y c.args.y c.requires.forward.y c.requires.depth c.requires.right.y c.requires.x c.requires.up.y c.requires.y c.component-2.result c.component-2.ensures.most c.component-2.ensures.value)
    (component_read basis.forward.z c.args.depth basis.right.z c.args.x basis.up.z c.args.y c.requires.forward.z c.requires.depth c.requires.right.z c.requires.x c.requires.up.z c.requires.y c.component-3.result c.component-3.ensures.most c.component-3.ensures.value)
