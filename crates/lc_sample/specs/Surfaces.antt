-- The surfaces of a scene: triangles, and how each sends light back.
use Rattle.std.specs.Prelude.{ℕ, zero, suc, ◌≤◌, List, Option, Some, None, IfSome, option_and_then, unwrap_or, slice_get}
use Rattle.lc_num.specs.Channels.{IsColourWithin}
use Rattle.lc_geom.specs.Triangles.{IsTri}
use Rattle.lc_obj.specs.Meshes.{AreNormals}
use Rattle.lc_obj.specs.declared.mesh.Face.{Face}
use Rattle.lc_mtl.specs.Materials.{find}
use Rattle.lc_mtl.specs.Settings.{grey}
use Rattle.lc_mtl.specs.declared.material.Material.{Material}
use Rattle.lc_sample.specs.declared.surface.Reflectance.{Reflectance}
use Rattle.lc_sample.specs.declared.surface.Surface.{Surface}

pub record IsReflectance (r : Reflectance) : Type 0 where
  pub kd : IsColourWithin 10000 r.kd
  pub ks : IsColourWithin 10000 r.ks
  pub ns : r.ns ≤ 1000

pub record IsSurface (s : Surface) : Type 0 where
  pub tri : IsTri s.tri
  pub normals : IfSome s.normals AreNormals
  pub reflectance : IsReflectance s.reflectance

-- ---- the surface of a face

-- a face that names no material, or one that is in no library, sends back 0.8 of the light and has no highlight
abbrev pub reflectance_of : Option Material → Reflectance
reflectance_of None = record { kd = grey 8000; ks = grey 0; ns = 0 }
reflectance_of (Some m) = record { kd = m.kd; ks = m.ks; ns = m.ns }

-- the first material of a name
unfoldable pub material_of : List Material → List ℕ → Option Material
material_of items name = option_and_then (slice_get items) (find name items)

-- the name of this number, counted from 1; the number 0 stands for none
abbrev pub name_at : List (List ℕ) → ℕ → Option (List ℕ)
name_at names zero = None
name_at names (suc k) = slice_get names k

abbrev pub surface_of : List (List ℕ) → List Material → Face → Surface
surface_of names items face = record {
  tri = face.tri;
  normals = face.normals;
  reflectance = reflectance_of (option_and_then (material_of items) (name_at names face.name));
}

-- ---- the same, by how the surfaces of each name send light back

abbrev pub look_of : List Material → List ℕ → Reflectance
look_of items name = reflectance_of (material_of items name)

abbrev pub look_at : List Reflectance → ℕ → Reflectance
look_at looks zero = reflectance_of None
look_at looks (suc k) = unwrap_or (slice_get looks k) (reflectance_of None)

abbrev pub surface_by : List Reflectance → Face → Surface
surface_by looks face = record { tri = face.tri; normals = face.normals; reflectance = look_at looks face.name }
