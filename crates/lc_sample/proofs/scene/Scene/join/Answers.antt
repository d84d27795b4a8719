use Rattle.std.proofs.Common.{map, ap, sym, subst, ◌∙◌, arith, List, All}
use Rattle.lc_geom.specs.Triangles.{IsTri}
use Rattle.lc_geom.specs.declared.triangle.Tri.{Tri}
use Rattle.lc_sample.specs.declared.surface.Surface.{Surface}
use Rattle.lc_sample.specs.Scenes.{IsScene}
use Rattle.lc_sample.specs.Surfaces.{look_of}
use Rattle.lc_sample.proofs.SurfaceLemmas.{surfaces_more, triangles_more, surfaces_all, scene_is, scene_valid, triangles_are}
use Rattle.lc_sample.proofs.scene.Scene.join.Goals as goal

pub loop-face-preserved : goal.loop-face-preserved
loop-face-preserved c =
    let items = c.args.materials.now.items in
    let looks = c.deref.ensures.value ∙ c.in_ok-looks.ensures ∙ ap (map (look_of items)) c.as_slice.ensures in
    record {
      surfaces =
          surfaces_more c.args.mesh.names items c.deref.result.now c.as_slice-face-items.result.now c.loop-face.face-index _ c.loop-face.surfaces c.push.new.self c.surface_of.result
          c.loop-face-test.true looks c.surface_of.ensures c.in_ok-push.ensures.ok c.loop-face.invariant.surfaces;
      triangles =
          triangles_more c.loop-face.surfaces c.push.new.self c.loop-face.triangles c.push-in-loop-face.new.self c.surface_of.result _
          c.in_ok-push.ensures.ok c.in_ok-push-2.ensures.ok (sym (ap (λ (s : Surface). s.tri) c.surface_of.ensures)) c.loop-face.invariant.triangles;
    }

pub build-requires-2-clause-valid : goal.build-requires-2-clause-valid
build-requires-2-clause-valid c =
    let valid : IsScene (record { surfaces = c.loop-face.surfaces; forest = c.in_ok-forest.forest }) =
    scene_valid c.args.mesh c.args.materials.now.items c.args.lights c.args.seed c.loop-face.surfaces c.in_ok-forest.forest
    (surfaces_all c.args.mesh.names c.args.materials.now.items c.args.mesh c.as_slice-face-items.result.now c.loop-face.face-index c.loop-face.surfaces (omega arith) c.as_slice-face-items.ensures c.loop-face.invariant.surfaces)
    c.in_ok-forest.ensures.value c.requires.mesh c.requires.materials c.requires.lights
    in
    subst (λ (ts : List Tri). All IsTri ts) (sym c.as_slice-2.ensures) (triangles_are c.loop-face.surfaces c.loop-face.triangles c.loop-face.invariant.triangles valid.surfaces)

pub invariant_of-result : goal.invariant_of-result
invariant_of-result c = (
  c.in_ok-hierarchy.ensures ∙ c.as_slice-2.ensures ∙ c.loop-face.invariant.triangles,
  scene_valid c.args.mesh c.args.materials.now.items c.args.lights c.args.seed c.loop-face.surfaces c.in_ok-forest.forest
      (surfaces_all c.args.mesh.names c.args.materials.now.items c.args.mesh c.as_slice-face-items.result.now c.loop-face.face-index c.loop-face.surfaces (omega arith) c.as_slice-face-items.ensures c.loop-face.invariant.surfaces)
      c.in_ok-forest.ensures.value c.requires.mesh c.requires.materials c.requires.lights,
)

pub returns-clause-value : goal.returns-clause-value
returns-clause-value c =
    scene_is c.args.mesh c.args.materials.now.items c.args.lights c.args.seed c.loop-face.surfaces c.in_ok-forest.forest
    (surfaces_all c.args.mesh.names c.args.materials.now.items c.args.mesh c.as_slice-face-items.result.now c.loop-face.face-index c.loop-face.surfaces (omega arith) c.as_slice-face-items.ensures c.loop-face.invariant.surfaces)
    c.in_ok-forest.ensures.value

pub returns-clause-valid : goal.returns-clause-valid
returns-clause-valid c =
    scene_valid c.args.mesh c.args.materials.now.items c.args.lights c.args.seed c.loop-face.surfaces c.in_ok-forest.forest
    (surfaces_all c.args.mesh.names c.args.materials.now.items c.args.mesh c.as_slice-face-items.result.now c.loop-face.face-index c.loop-face.surfaces (omega arith) c.as_slice-face-items.ensures c.loop-face.invariant.surfaces)
    c.in_ok-forest.ensures.value c.requires.mesh c.requires.materials c.requires.lights
