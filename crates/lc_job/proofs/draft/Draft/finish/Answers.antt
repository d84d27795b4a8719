use Rattle.std.proofs.Common.{◌∙◌}
use Rattle.std.proofs.lemmas.Result.{err_from_is_err_and}
use Rattle.lc_job.specs.declared.key.Key.TheVariants as key
use Rattle.lc_job.proofs.FinishLemmas.{after_scene, after_lights, after_picture, after_bounds, after_eye, after_at, after_size, goes_on, job_is, lacks_of_required, stops_at, told}
use Rattle.lc_job.proofs.draft.Draft.finish.Goals as goal

pub returns-in_err-scene : goal.returns-in_err-scene
returns-in_err-scene c =
    let p = err_from_is_err_and c.from_residual.result c.from_residual.ensures.1 in
    let d = c.args.self in
    rw (p.1, p.2, told _ _ _ c.in_err-scene.ensures.value) (lacks_of_required d ∙ stops_at d key.Scene after_scene c.in_err-scene.ensures.variant)

pub returns-in_err-lights : goal.returns-in_err-lights
returns-in_err-lights c =
    let p = err_from_is_err_and c.from_residual-in_err-lights.result c.from_residual-in_err-lights.ensures.1 in
    let d = c.args.self in
    rw (p.1, p.2, told _ _ _ c.in_err-lights.ensures.value) (lacks_of_required d ∙ goes_on d key.Scene after_scene c.in_ok-scene.ensures.variant ∙ stops_at d key.Lights after_lights c.in_err-lights.ensures.variant)

pub returns-in_err-picture : goal.returns-in_err-picture
returns-in_err-picture c =
    let p = err_from_is_err_and c.from_residual-in_err-picture.result c.from_residual-in_err-picture.ensures.1 in
    let d = c.args.self in
    rw (p.1, p.2, told _ _ _ c.in_err-picture.ensures.value) (lacks_of_required d ∙ goes_on d key.Scene after_scene c.in_ok-scene.ensures.variant ∙ goes_on d key.Lights after_lights c.in_ok-lights.ensures.variant ∙ stops_at d key.Picture after_picture c.in_err-picture.ensures.variant)

pub returns-in_err-bounds : goal.returns-in_err-bounds
returns-in_err-bounds c =
    let p = err_from_is_err_and c.from_residual-in_err-bounds.result c.from_residual-in_err-bounds.ensures.1 in
    let d = c.args.self in
    rw (p.1, p.2, told _ _ _ c.in_err-bounds.ensures.value) (lacks_of_required d ∙ goes_on d key.Scene after_scene c.in_ok-scene.ensures.variant ∙ goes_on d key.Lights after_lights c.in_ok-lights.ensures.variant ∙ goes_on d key.Picture after_picture c.in_ok-picture.ensures.variant ∙ stops_at d key.Bounds after_bounds c.in_err-bounds.ensures.variant)

pub returns-in_err-eye : goal.returns-in_err-eye
returns-in_err-eye c =
    let p = err_from_is_err_and c.from_residual-in_err-eye.result c.from_residual-in_err-eye.ensures.1 in
    let d = c.args.self in
    rw (p.1, p.2, told _ _ _ c.in_err-eye.ensures.value) (lacks_of_required d ∙ goes_on d key.Scene after_scene c.in_ok-scene.ensures.variant ∙ goes_on d key.Lights after_lights c.in_ok-lights.ensures.variant ∙ goes_on d key.Picture after_picture c.in_ok-picture.ensures.variant ∙ goes_on d key.Bounds after_bounds c.in_ok-bounds.ensures.variant ∙ stops_at d key.Eye after_eye c.in_err-eye.ensures.variant)

pub returns-in_err-at : goal.returns-in_err-at
returns-in_err-at c =
    let p = err_from_is_err_and c.from_residual-in_err-at.result c.from_residual-in_err-at.ensures.1 in
    let d = c.args.self in
    rw (p.1, p.2, told _ _ _ c.in_err-at.ensures.value) (lacks_of_required d ∙ goes_on d key.Scene after_scene c.in_ok-scene.ensures.variant ∙ goes_on d key.Lights after_lights c.in_ok-lights.ensures.variant ∙ goes_on d key.Picture after_picture c.in_ok-picture.ensures.variant ∙ goes_on d key.Bounds after_bounds c.in_ok-bounds.ensures.variant ∙ goes_on d key.Eye after_eye c.in_ok-eye.ensures.variant ∙ stops_at d key.At after_at c.in_err-at.ensures.variant)

pub returns-in_err-size : goal.returns-in_err-size
returns-in_err-size c =
    let p = err_from_is_err_and c.from_residual-in_err-size.result c.from_residual-in_err-size.ensures.1 in
    let d = c.args.self in
    rw (p.1, p.2, told _ _ _ c.in_err-size.ensures.value) (lacks_of_required d ∙ goes_on d key.Scene after_scene c.in_ok-scene.ensures.variant ∙ goes_on d key.Lights after_lights c.in_ok-lights.ensures.variant ∙ goes_on d key.Picture after_picture c.in_ok-picture.ensures.variant ∙ goes_on d key.Bounds after_bounds c.in_ok-bounds.ensures.variant ∙ goes_on d key.Eye after_eye c.in_ok-eye.ensures.variant ∙ goes_on d key.At after_at c.in_ok-at.ensures.variant ∙ stops_at d key.Size after_size c.in_err-size.ensures.variant)

pub returns : goal.returns
returns c =
    let d = c.args.self in (
      lacks_of_required d ∙ goes_on d key.Scene after_scene c.in_ok-scene.ensures.variant ∙ goes_on d key.Lights after_lights c.in_ok-lights.ensures.variant ∙ goes_on d key.Picture after_picture c.in_ok-picture.ensures.variant ∙ goes_on d key.Bounds after_bounds c.in_ok-bounds.ensures.variant ∙ goes_on d key.Eye after_eye c.in_ok-eye.ensures.variant ∙ goes_on d key.At after_at c.in_ok-at.ensures.variant ∙ goes_on d key.Size after_size c.in_ok-size.ensures.variant,
      job_is d _ (record {
        scene = c.in_ok-scene.ensures.ok_part;
        lights = c.in_ok-lights.ensures.ok_part;
        picture = c.in_ok-picture.ensures.ok_part;
        bounds = c.in_ok-bounds.ensures.ok_part;
        eye = c.in_ok-eye.ensures.ok_part;
        at = c.in_ok-at.ensures.ok_part;
        size = c.in_ok-size.ensures.ok_part;
        up = c.unwrap_or.ensures;
        view = c.unwrap_or-2.ensures;
        grid = c.unwrap_or-3.ensures;
        seed = c.unwrap_or-4.ensures;
        permille = c.unwrap_or-5.ensures;
        cut = c.unwrap_or-6.ensures;
        white = c.unwrap_or-7.ensures;
        rule = c.unwrap_or-8.ensures;
      }),
    )
