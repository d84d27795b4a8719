use Rattle.std.proofs.Common.{◌≡◌, Some, None, slice_get, refl, sym, ◌∙◌}
use Rattle.std.proofs.lemmas.Option.{slice_get_past, slice_get_read}
use Rattle.lc_sample.proofs.SurfaceLemmas.{look_by_place}
use Rattle.lc_sample.proofs.scene.reflectance_of.Goals as goal

pub returns-in-None : goal.returns-in-None
returns-in-None c = look_by_place c.args.materials.now.items c.args.name.now None None (sym c.in-None.is ∙ c.find.ensures) refl

pub returns-in-None-get : goal.returns-in-None-get
returns-in-None-get c =
    let past : slice_get c.as_slice.result.now c.in-Some.place ≡ None = slice_get_past c.as_slice.result.now c.in-Some.place c.in-None-get.ensures.lookup.3 in
    look_by_place c.args.materials.now.items c.args.name.now (Some c.in-Some.place) None (sym c.in-Some.is ∙ c.find.ensures) (rw c.as_slice.ensures at past)

pub returns-in-Some-get : goal.returns-in-Some-get
returns-in-Some-get c =
    let material = c.in-Some-get.material.now in
    let there : slice_get c.as_slice.result.now c.in-Some.place ≡ Some material =
    slice_get_read c.as_slice.result.now _ c.in-Some.place material refl c.in-Some-get.ensures.lookup.3.0 c.in-Some-get.ensures.lookup.1
    in
    look_by_place c.args.materials.now.items c.args.name.now (Some c.in-Some.place) (Some material) (sym c.in-Some.is ∙ c.find.ensures) (rw c.as_slice.ensures at there)
