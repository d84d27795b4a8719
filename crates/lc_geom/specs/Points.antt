-- Boxes along the axes, and the parts of segments in them.
use Rattle.std.specs.Prelude.{ℕ, ◌+◌, ℤ, pos, ◌-ℤ◌, ◌*ℤ◌, ◌≤ℤ◌}
use Rattle.lc_num.specs.declared.vectors.Vec3.{Vec3}

-- the place lies in the box from its low to its high corner, its faces included
pub record IsBetween (low high v : Vec3) : Type 0 where
  pub low_x : low.x ≤ℤ v.x
  pub high_x : v.x ≤ℤ high.x
  pub low_y : low.y ≤ℤ v.y
  pub high_y : v.y ≤ℤ high.y
  pub low_z : low.z ≤ℤ v.z
  pub high_z : v.z ≤ℤ high.z

-- on one axis: what divides the way from p to q as s to r lies from low to high (all is times s + r)
pub record DividesBetween (s r : ℕ) (low high p q : ℤ) : Type 0 where
  pub at_least : ((low -ℤ p) *ℤ pos (s + r)) ≤ℤ (pos s *ℤ (q -ℤ p))
  pub at_most : (pos s *ℤ (q -ℤ p)) ≤ℤ ((high -ℤ p) *ℤ pos (s + r))

-- what divides the segment from p to q as s to r lies in the box
pub record DividesInside (s r : ℕ) (low high p q : Vec3) : Type 0 where
  pub x : DividesBetween s r low.x high.x p.x q.x
  pub y : DividesBetween s r low.y high.y p.y q.y
  pub z : DividesBetween s r low.z high.z p.z q.z
