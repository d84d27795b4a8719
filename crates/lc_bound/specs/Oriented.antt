-- What the kind of oriented lights means.
use Rattle.std.specs.Prelude.{ℕ, ◌+◌, ◌*◌, ◌≤◌, ◌^◌, min}
use Rattle.lc_num.specs.Channels.{IsPowerWithin, times, by_power, power_plus}
use Rattle.lc_num.specs.Cosines.{cos16}
use Rattle.lc_num.specs.Vectors.{difference, square}
use Rattle.lc_num.specs.Boxes.{SpanEnds, IsBoxWithin, IsInside, near2}
use Rattle.lc_num.specs.declared.vectors.Vec3.{Vec3}
use Rattle.lc_num.specs.declared.channels.Rgb.{Rgb}
use Rattle.lc_num.specs.declared.channels.Power.{Power}
use Rattle.lc_num.specs.declared.rules.Rule.{Rule}
use Rattle.lc_light.specs.Lights.{IsOriented}
use Rattle.lc_light.specs.declared.lights.Oriented.{Oriented}
use Rattle.lc_terms.specs.Kind.{Meaning}
use Rattle.lc_terms.specs.declared.spot.Spot.{Spot}
use Rattle.lc_bound.specs.Hull.{point_box, hull, box_from, box_to}
use Rattle.lc_bound.specs.Reach.{emission_top, emitted, falloff, material_top}

-- the box of the lights' places, the box of their normals, the least squared length of a normal, their summed
-- intensity, and how many they are
pub record Clump : Type 0 where
  pub box : SpanEnds
  pub normals : SpanEnds
  pub least : ℕ
  pub total : Power
  pub count : ℕ

pub record IsClump (c : Clump) : Type 0 where
  pub box : IsBoxWithin 50_000_000 c.box
  pub normals : IsBoxWithin 16384 c.normals
  pub least : c.least ≤ 3 * 2 ^ 28
  pub some : 1 ≤ c.count
  pub few : c.count ≤ 65_536
  pub total : IsPowerWithin (10 ^ 8 * c.count) c.total

-- the light's place and normal are in the clump's boxes, and its normal is not shorter than the least
pub record Covers (c : Clump) (light : Oriented) : Type 0 where
  pub place : IsInside c.box light.place
  pub normal : IsInside c.normals light.normal
  pub least : c.least ≤ square light.normal

abbrev pub place_of : Oriented → Vec3
place_of light = light.place

abbrev pub power_of : Oriented → Power
power_of light = light.power

abbrev pub toward : Vec3 → Oriented → Vec3
toward x light = difference light.place x

abbrev pub target : Vec3 → Oriented → Vec3
target x light = light.place

-- that of an omnidirectional light, less by the cosine at which the light leaves
abbrev pub geometry : Vec3 → Oriented → ℕ
geometry x light = emitted (cos16 light.normal (difference x light.place)) (falloff (square (difference light.place x)))

abbrev pub one : Oriented → Clump
one light = record {
  box = point_box light.place;
  normals = point_box light.normal;
  least = square light.normal;
  total = light.power;
  count = 1;
}

abbrev pub join : Clump → Clump → Clump
join a b = record {
  box = hull a.box b.box;
  normals = hull a.normals b.normals;
  least = min a.least b.least;
  total = power_plus a.total b.total;
  count = a.count + b.count;
}

abbrev pub count_of : Clump → ℕ
count_of c = c.count

abbrev pub total_of : Clump → Power
total_of c = c.total

-- the greatest cosine at which light leaves toward x, and the geometric bound at the least distance to the box
abbrev pub geometry_top : Vec3 → Clump → Rule → ℕ
geometry_top x c r =
    emitted (emission_top r c.normals c.least (box_to x c.box) (near2 x c.box)) (falloff (near2 x c.box))

-- the material bound and the geometric bound
abbrev pub reach : Spot → Clump → Rule → Rgb
reach spot c r = times (geometry_top spot.x c r) (material_top spot (box_from spot.x c.box) (near2 spot.x c.box) r)

abbrev pub top : Spot → Clump → Rule → Rgb
top spot c r = by_power (reach spot c r) c.total

abbrev pub oriented_meaning : Meaning Oriented Clump
oriented_meaning = record {
  valid_light = IsOriented;
  valid_clump = IsClump;
  count = count_of;
  covers = Covers;
  reach = reach;
  place = place_of;
  power = power_of;
  toward = toward;
  target = target;
  geometry = geometry;
  one = one;
  join = join;
  total = total_of;
  top = top;
}
