use Rattle.lc_view.specs.Camera.{ray_of}
use Rattle.lc_view.proofs.RayLemmas.{depth_read, widened_read, same_ray}
use Rattle.lc_view.proofs.ray.ray_of.Goals as goal

pub returns-clause-value : goal.returns-clause-value
unfolding ray_of
returns-clause-value c =
    same_ray c.args.camera.now.eye c.scaled.result c.combined.result _ _ _ _ _ _ _ _ _ _ _ _
    c.scaled.ensures.value
    c.combined.ensures.value
    c.axes-basis.ensures.forward
    c.axes-basis.ensures.right
    c.axes-basis.ensures.up
    (depth_read c.from-depth.result c.span.result _ c.span.ensures.most c.span.ensures.value c.from-depth.ensures)
    (widened_read c.widened-x.result c.offset_right.result _ _ c.widened-x.ensures.most c.offset_right.ensures.most c.offset_right.ensures.value c.widened-x.ensures.value)
    (widened_read c.widened-y.result c.offset_up.result _ _ c.widened-y.ensures.most c.offset_up.ensures.most c.offset_up.ensures.value c.widened-y.ensures.value)
