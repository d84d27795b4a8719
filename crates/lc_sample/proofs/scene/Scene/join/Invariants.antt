use Rattle.std.proofs.Common.{◌≡◌, map, take}
use Rattle.lc_sample.specs.Surfaces.{surface_of}
use Rattle.lc_sample.specs.declared.surface.Surface.{Surface}
use Rattle.lc_sample.proofs.scene.Scene.join.Given as goal

abbrev pub invariant-loop-face : goal.invariant-loop-face
invariant-loop-face l = record {
  surfaces : l.surfaces ≡ map (surface_of l.fn.mesh.names l.materials.items) (take l.face-index l.face-items);
  triangles : l.triangles ≡ map (λ (s : Surface). s.tri) l.surfaces;
}
