-- Numbers, in units of 1/10000, that are coordinates.
use Rattle.std.specs.Prelude.{Bool, ◌&&◌, nat_le, ℤ, unsigned_abs}
use Rattle.lc_num.specs.declared.vectors.Vec3.{Vec3}

-- a coordinate is from -5000 to 5000
abbrev pub is_coordinate : ℤ → Bool
is_coordinate z = nat_le (unsigned_abs z) 50_000_000

-- a place has three of them
abbrev pub is_place : Vec3 → Bool
is_place v = is_coordinate v.x && is_coordinate v.y && is_coordinate v.z
