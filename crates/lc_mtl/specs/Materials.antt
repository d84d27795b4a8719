-- Materials within their ranges, and where a name stands among them.
use Rattle.std.specs.Prelude.{ℕ, ◌≤◌, List, length, All, Option, position}
use Rattle.std.specs.Str.{bytes_eq}
use Rattle.lc_num.specs.Channels.{IsColourWithin}
use Rattle.lc_mtl.specs.declared.material.Material.{Material}

-- a share of light is at most 1, and an exponent at most 1000
pub record IsMaterial (m : Material) : Type 0 where
  pub kd : IsColourWithin 10000 m.kd
  pub ks : IsColourWithin 10000 m.ks
  pub ns : m.ns ≤ 1000

-- materials within their ranges, and not too many
pub record AreMaterials (items : List Material) : Type 0 where
  pub each : All IsMaterial items
  pub few : length items ≤ 4096

-- the place of the first material of a name
unfoldable pub find : List ℕ → List Material → Option ℕ
find name items = position (λ (m : Material). bytes_eq m.name name) items
