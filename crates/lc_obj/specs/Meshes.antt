-- Meshes within their ranges.
use Rattle.std.specs.Prelude.{ℕ, ◌≤◌, List, length, All, IfSome}
use Rattle.lc_num.specs.Vectors.{Within}
use Rattle.lc_geom.specs.Triangles.{IsTri}
use Rattle.lc_obj.specs.declared.mesh.Face.{Face}
use Rattle.lc_obj.specs.declared.mesh.Mesh.{Mesh}
use Rattle.lc_obj.specs.declared.mesh.Triple.{Triple}

pub record AreNormals (t : Triple) : Type 0 where
  pub a : Within 16384 t.a
  pub b : Within 16384 t.b
  pub c : Within 16384 t.c

-- corners in the coordinate range, normals of at most 16384, and a material's name by its number from 1, or 0 for none
pub record IsFace (names : List (List ℕ)) (f : Face) : Type 0 where
  pub tri : IsTri f.tri
  pub normals : IfSome f.normals AreNormals
  pub name : f.name ≤ length names

pub record IsMesh (m : Mesh) : Type 0 where
  pub faces : All (IsFace m.names) m.faces
  pub few : length m.faces ≤ 1_000_000
