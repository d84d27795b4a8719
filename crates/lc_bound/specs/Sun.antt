-- What the kind of suns means.
use Rattle.std.specs.Prelude.{ℕ, ◌+◌, ◌*◌, ◌≤◌, ◌^◌, min, pos, ◌+ℤ◌, ◌*ℤ◌}
use Rattle.lc_num.specs.Channels.{IsPowerWithin, times, by_power, power_plus}
use Rattle.lc_num.specs.Vectors.{square}
use Rattle.lc_num.specs.Boxes.{SpanEnds, IsBoxWithin, IsInside}
use Rattle.lc_num.specs.declared.vectors.Vec3.{Vec3}
use Rattle.lc_num.specs.declared.channels.Rgb.{Rgb}
use Rattle.lc_num.specs.declared.channels.Power.{Power}
use Rattle.lc_num.specs.declared.rules.Rule.{Rule}
use Rattle.lc_light.specs.Lights.{IsSun}
use Rattle.lc_light.specs.declared.lights.Sun.{Sun}
use Rattle.lc_terms.specs.Kind.{Meaning}
use Rattle.lc_terms.specs.declared.spot.Spot.{Spot}
use Rattle.lc_bound.specs.Hull.{point_box, hull}
use Rattle.lc_bound.specs.Reach.{material_top}

-- the box of the suns' directions, the least squared length of one, their summed intensity, and how many they are
pub record Clump : Type 0 where
  pub box : SpanEnds
  pub least : ℕ
  pub total : Power
  pub count : ℕ

pub record IsClump (c : Clump) : Type 0 where
  pub box : IsBoxWithin 16384 c.box
  pub least : c.least ≤ 3 * 2 ^ 28
  pub some : 1 ≤ c.count
  pub few : c.count ≤ 65_536
  pub total : IsPowerWithin (10 ^ 8 * c.count) c.total

-- the sun's direction is in the clump's box, and no shorter than the clump's least
pub record Covers (c : Clump) (light : Sun) : Type 0 where
  pub inside : IsInside c.box light.toward
  pub long : c.least ≤ square light.toward

-- suns have no places: lists of suns are halved by their directions
abbrev pub place_of : Sun → Vec3
place_of light = light.toward

abbrev pub power_of : Sun → Power
power_of light = light.power

abbrev pub toward : Vec3 → Sun → Vec3
toward x light = light.toward

-- far enough along the direction to be outside of every scene
abbrev pub target : Vec3 → Sun → Vec3
target x light = record {
  x = x.x +ℤ (pos 16384 *ℤ light.toward.x);
  y = x.y +ℤ (pos 16384 *ℤ light.toward.y);
  z = x.z +ℤ (pos 16384 *ℤ light.toward.z);
}

abbrev pub geometry : Vec3 → Sun → ℕ
geometry x light = 10 ^ 9

abbrev pub one : Sun → Clump
one light = record { box = point_box light.toward; least = square light.toward; total = light.power; count = 1 }

abbrev pub join : Clump → Clump → Clump
join a b =
    record { box = hull a.box b.box; least = min a.least b.least; total = power_plus a.total b.total; count = a.count + b.count }

abbrev pub count_of : Clump → ℕ
count_of c = c.count

abbrev pub total_of : Clump → Power
total_of c = c.total

-- the geometric term that all suns have, and the material bound over the box
abbrev pub reach : Spot → Clump → Rule → Rgb
reach spot c r = times (10 ^ 9) (material_top spot c.box c.least r)

abbrev pub top : Spot → Clump → Rule → Rgb
top spot c r = by_power (reach spot c r) c.total

abbrev pub sun_meaning : Meaning Sun Clump
sun_meaning = record {
  valid_light = IsSun;
  valid_clump = IsClump;
  count = count_of;
  covers = Covers;
  reach = reach;
  place = place_of;
  power = power_of;
  toward = toward;
  target = target;
  geometry = geometry;
  one = one;
  join = join;
  total = total_of;
  top = top;
}
