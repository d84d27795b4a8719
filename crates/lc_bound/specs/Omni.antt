-- What the kind of omnidirectional lights means.
use Rattle.std.specs.Prelude.{ℕ, ◌+◌, ◌*◌, ◌≤◌, ◌^◌}
use Rattle.lc_num.specs.Channels.{IsPowerWithin, times, by_power, power_plus}
use Rattle.lc_num.specs.Vectors.{difference, square}
use Rattle.lc_num.specs.Boxes.{SpanEnds, IsBoxWithin, IsInside, near2}
use Rattle.lc_num.specs.declared.vectors.Vec3.{Vec3}
use Rattle.lc_num.specs.declared.channels.Rgb.{Rgb}
use Rattle.lc_num.specs.declared.channels.Power.{Power}
use Rattle.lc_num.specs.declared.rules.Rule.{Rule}
use Rattle.lc_light.specs.Lights.{IsOmni}
use Rattle.lc_light.specs.declared.lights.Omni.{Omni}
use Rattle.lc_terms.specs.Kind.{Meaning}
use Rattle.lc_terms.specs.declared.spot.Spot.{Spot}
use Rattle.lc_bound.specs.Hull.{point_box, hull, box_from}
use Rattle.lc_bound.specs.Reach.{falloff, material_top}

-- the box of the lights' places, their summed intensity, and how many they are
pub record Clump : Type 0 where
  pub box : SpanEnds
  pub total : Power
  pub count : ℕ

pub record IsClump (c : Clump) : Type 0 where
  pub box : IsBoxWithin 50_000_000 c.box
  pub some : 1 ≤ c.count
  pub few : c.count ≤ 65_536
  pub total : IsPowerWithin (10 ^ 8 * c.count) c.total

-- the light's place is in the clump's box
abbrev pub Covers : Clump → Omni → Type 0
Covers c light = IsInside c.box light.place

abbrev pub place_of : Omni → Vec3
place_of light = light.place

abbrev pub power_of : Omni → Power
power_of light = light.power

abbrev pub toward : Vec3 → Omni → Vec3
toward x light = difference light.place x

abbrev pub target : Vec3 → Omni → Vec3
target x light = light.place

abbrev pub geometry : Vec3 → Omni → ℕ
geometry x light = falloff (square (difference light.place x))

abbrev pub one : Omni → Clump
one light = record { box = point_box light.place; total = light.power; count = 1 }

abbrev pub join : Clump → Clump → Clump
join a b = record { box = hull a.box b.box; total = power_plus a.total b.total; count = a.count + b.count }

abbrev pub count_of : Clump → ℕ
count_of c = c.count

abbrev pub total_of : Clump → Power
total_of c = c.total

-- the material bound and the geometric bound at the least distance to the box
abbrev pub reach : Spot → Clump → Rule → Rgb
reach spot c r = times (falloff (near2 spot.x c.box)) (material_top spot (box_from spot.x c.box) (near2 spot.x c.box) r)

abbrev pub top : Spot → Clump → Rule → Rgb
top spot c r = by_power (reach spot c r) c.total

abbrev pub omni_meaning : Meaning Omni Clump
omni_meaning = record {
  valid_light = IsOmni;
  valid_clump = IsClump;
  count = count_of;
  covers = Covers;
  reach = reach;
  place = place_of;
  power = power_of;
  toward = toward;
  target = target;
  geometry = geometry;
  one = one;
  join = join;
  total = total_of;
  top = top;
}
