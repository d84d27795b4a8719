-- Vectors of unbounded whole numbers.
use Rattle.std.specs.Prelude.{ℕ, ◌≤◌, ℤ, pos, ◌+ℤ◌, ◌-ℤ◌, ◌*ℤ◌, unsigned_abs}
use Rattle.std.specs.Int.{int_min, int_max}
use Rattle.lc_num.specs.declared.vectors.Vec3.{Vec3}

-- each component is at most `most` in absolute value
pub record Within (most : ℕ) (v : Vec3) : Type 0 where
  pub x : unsigned_abs v.x ≤ most
  pub y : unsigned_abs v.y ≤ most
  pub z : unsigned_abs v.z ≤ most

abbrev pub zero_vector : Vec3
zero_vector = record { x = pos 0; y = pos 0; z = pos 0 }

abbrev pub difference : Vec3 → Vec3 → Vec3
difference a b = record { x = a.x -ℤ b.x; y = a.y -ℤ b.y; z = a.z -ℤ b.z }

-- the lesser and the greater on each axis
abbrev pub lesser : Vec3 → Vec3 → Vec3
lesser a b = record { x = int_min a.x b.x; y = int_min a.y b.y; z = int_min a.z b.z }

abbrev pub greater : Vec3 → Vec3 → Vec3
greater a b = record { x = int_max a.x b.x; y = int_max a.y b.y; z = int_max a.z b.z }

unfoldable pub dot : Vec3 → Vec3 → ℤ
dot a b = a.x *ℤ b.x +ℤ a.y *ℤ b.y +ℤ a.z *ℤ b.z

-- the squared length
unfoldable pub square : Vec3 → ℕ
square v = unsigned_abs (dot v v)

-- the vector at right angles to both, whose length is the area that they span
unfoldable pub cross : Vec3 → Vec3 → Vec3
cross a b = record {
  x = a.y *ℤ b.z -ℤ a.z *ℤ b.y;
  y = a.z *ℤ b.x -ℤ a.x *ℤ b.z;
  z = a.x *ℤ b.y -ℤ a.y *ℤ b.x;
}
