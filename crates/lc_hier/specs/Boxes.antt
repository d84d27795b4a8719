-- Boxes along the axes.
use Rattle.std.specs.Prelude.{◌≤ℤ◌}
use Rattle.lc_num.specs.declared.vectors.Vec3.{Vec3}
use Rattle.lc_geom.specs.declared.triangle.Tri.{Tri}
use Rattle.lc_hier.specs.declared.bounds.Corner.{Corner}
use Rattle.lc_hier.specs.declared.bounds.Bounds.{Bounds}

-- the place lies in the box, its faces included
pub record IsInBounds (box : Bounds) (v : Vec3) : Type 0 where
  pub low_x : box.low.x ≤ℤ v.x
  pub high_x : v.x ≤ℤ box.high.x
  pub low_y : box.low.y ≤ℤ v.y
  pub high_y : v.y ≤ℤ box.high.y
  pub low_z : box.low.z ≤ℤ v.z
  pub high_z : v.z ≤ℤ box.high.z

-- all corners of the triangle lie in the box, and so does the whole triangle
pub record Holds (box : Bounds) (t : Tri) : Type 0 where
  pub a : IsInBounds box t.a
  pub b : IsInBounds box t.b
  pub c : IsInBounds box t.c

-- the place of a corner, in numbers without limits
abbrev pub place_of : Corner → Vec3
place_of corner = record { x = corner.x; y = corner.y; z = corner.z }
