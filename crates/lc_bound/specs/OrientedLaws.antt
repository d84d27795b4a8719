-- The laws of the kind of oriented lights.
use Rattle.std.proofs.Common.{◌+◌, ◌*◌, ◌^◌, ◌≤◌, ◌⊎◌, inl, inr, arith, le_refl, refl}
use Rattle.lc_num.specs.Channels.{IsRgbWithin, IsAtMost}
use Rattle.lc_num.specs.Cosines.{cos16}
use Rattle.lc_num.specs.Vectors.{Within, difference, square}
use Rattle.lc_num.specs.Boxes.{near2}
use Rattle.lc_num.specs.declared.rules.Rule.{Rule}
use Rattle.lc_num.specs.declared.rules.Rule.TheVariants as rule
use Rattle.lc_num.specs.declared.vectors.Vec3.{Vec3}
use Rattle.lc_num.proofs.BoxLemmas.{near2-least}
use Rattle.lc_num.proofs.CosineLaw.{cos16-small}
use Rattle.lc_num.proofs.SquareLemmas.{square_bound, square-turned}
use Rattle.lc_light.specs.Lights.{IsOriented}
use Rattle.lc_light.specs.declared.lights.Oriented.{Oriented}
use Rattle.lc_terms.specs.Factor.{factor, material}
use Rattle.lc_terms.specs.Kind.{Laws}
use Rattle.lc_terms.specs.SeenLaws.{factor-below}
use Rattle.lc_terms.specs.Spot.{IsSpot}
use Rattle.lc_terms.specs.declared.spot.Spot.{Spot}
use Rattle.lc_bound.specs.Hull.{box_from, box_to}
use Rattle.lc_bound.specs.Reach.{emission_top, falloff, material_top}
use Rattle.lc_bound.specs.Oriented.{Clump, IsClump, Covers, toward, geometry, geometry_top, one, join, reach, oriented_meaning}
use Rattle.lc_bound.specs.HullLaws.{point_box-inside, point_box-within, hull-within, hull-inside, within_more, difference-within, box_from-inside, box_to-inside}
use Rattle.lc_bound.specs.ReachLaws.{emission-below, emission_top-sharper, emission_top-small, emitted-rises, emitted-small, falloff-falls, falloff-small, material-below, material_top-sharper, material_top-small, times-rises, times-small}

toward_within : (x : Vec3) (light : Oriented) → Within 50_100_000 x → IsOriented light
    → Within 100_100_000 (toward x light)
toward_within x light hx h = difference-within 50_000_000 50_100_000 light.place x h.place hx

geometry_within : (x : Vec3) (light : Oriented) → geometry x light ≤ 10 ^ 13
geometry_within x light =
    emitted-small (cos16 light.normal (difference x light.place)) (falloff (square (difference light.place x)))
    (cos16-small light.normal (difference x light.place))
    (falloff-small (square (difference light.place x)))

one_valid : (light : Oriented) → IsOriented light → IsClump (one light)
one_valid light h = record {
  box = point_box-within 50_000_000 light.place h.place;
  normals = point_box-within 16384 light.normal h.normal;
  least = square_bound 16384 light.normal h.normal;
  some = omega arith;
  few = omega arith;
  total = h.power;
}

join_valid : (a b : Clump) → IsClump a → IsClump b → a.count + b.count ≤ 65_536 → IsClump (join a b)
join_valid a b ha hb few = record {
  box = hull-within 50_000_000 a.box b.box ha.box hb.box;
  normals = hull-within 16384 a.normals b.normals ha.normals hb.normals;
  least = omega (arith, ha.least);
  some = omega (arith, ha.some);
  few = few;
  total =
      record {
        r = omega (arith, ha.total.r, hb.total.r);
        g = omega (arith, ha.total.g, hb.total.g);
        b = omega
            (arith, ha.total.b, hb.total.b);
      };
}

one_covers : (light : Oriented) → Covers (one light) light
one_covers light = record {
  place = point_box-inside light.place;
  normal = point_box-inside light.normal;
  least = omega arith;
}

join_covers : (a b : Clump) (light : Oriented) → Covers a light ⊎ Covers b light → Covers (join a b) light
join_covers a b light (inl h) = record {
  place = hull-inside a.box b.box light.place (inl h.place);
  normal = hull-inside a.normals b.normals light.normal (inl h.normal);
  least = omega (arith, h.least);
}
join_covers a b light (inr h) = record {
  place = hull-inside a.box b.box light.place (inr h.place);
  normal = hull-inside a.normals b.normals light.normal (inr h.normal);
  least = omega (arith, h.least);
}

reach_within : (spot : Spot) (c : Clump) (r : Rule) → IsSpot spot
    → IsRgbWithin (20_000 * 65_536 * 10 ^ 13) (reach spot c r)
reach_within spot c r hs =
    times-small (geometry_top spot.x c r) (material_top spot (box_from spot.x c.box) (near2 spot.x c.box) r)
    (emitted-small (emission_top r c.normals c.least (box_to spot.x c.box) (near2 spot.x c.box))
    (falloff (near2 spot.x c.box))
    (emission_top-small r c.normals c.least (box_to spot.x c.box) (near2 spot.x c.box))
    (falloff-small (near2 spot.x c.box)))
    (material_top-small spot (box_from spot.x c.box) (near2 spot.x c.box) r hs)

-- no light that a clump covers has a greater geometric term than the clump's bound
geometry_below : (x : Vec3) (c : Clump) (r : Rule) (light : Oriented) → Covers c light
    → near2 x c.box ≤ square (difference light.place x) → geometry x light ≤ geometry_top x c r
geometry_below x c r light h near =
    emitted-rises (cos16 light.normal (difference x light.place))
    (emission_top r c.normals c.least (box_to x c.box) (near2 x c.box))
    (falloff (square (difference light.place x))) (falloff (near2 x c.box))
    (emission-below r light.normal (difference x light.place) c.normals c.least (box_to x c.box)
    (near2 x c.box) h.normal (box_to-inside x c.box light.place h.place) h.least
    (rw (square-turned x light.place) near))
    (falloff-falls (near2 x c.box) (square (difference light.place x)) near)

-- no light that a clump covers and that is seen has a greater factor than the clump's bound
seen_dominates : (spot : Spot) (c : Clump) (r : Rule) (light : Oriented) → Covers c light
    → IsAtMost (reach spot c r) (factor spot (toward spot.x light) (geometry spot.x light))
seen_dominates spot c r light h =
    let near = near2-least spot.x c.box light.place h.place in
    times-rises (geometry spot.x light) (geometry_top spot.x c r) (material spot (toward spot.x light))
    (material_top spot (box_from spot.x c.box) (near2 spot.x c.box) r)
    (geometry_below spot.x c r light h near)
    (material-below spot (box_from spot.x c.box) (near2 spot.x c.box) r (difference light.place spot.x)
    (box_from-inside spot.x c.box light.place h.place) near)

geometry_sharper : (x : Vec3) (c : Clump) → geometry_top x c rule.Two ≤ geometry_top x c rule.One
geometry_sharper x c =
    let offsets = box_to x c.box in
    let near = near2 x c.box in
    emitted-rises (emission_top rule.Two c.normals c.least offsets near)
    (emission_top rule.One c.normals c.least offsets near) (falloff near) (falloff near)
    (emission_top-sharper c.normals c.least offsets near)
    (le_refl (falloff near))

sharper : (spot : Spot) (c : Clump) → IsAtMost (reach spot c rule.One) (reach spot c rule.Two)
sharper spot c =
    let box = box_from spot.x c.box in
    let near = near2 spot.x c.box in
    times-rises (geometry_top spot.x c rule.Two) (geometry_top spot.x c rule.One)
    (material_top spot box near rule.Two) (material_top spot box near rule.One)
    (geometry_sharper spot.x c)
    (material_top-sharper spot box near)

pub oriented_laws : Laws oriented_meaning
oriented_laws = record {
  place_within = λ light h. h.place;
  power_within = λ light h. h.power;
  toward_within = toward_within;
  target_within = λ x light hx h. within_more 50_000_000 320_000_000 light.place (omega arith) h.place;
  geometry_within = λ x light hx h. geometry_within x light;
  one_valid = one_valid;
  one_count = λ light h. refl;
  one_covers = λ light h. one_covers light;
  one_total = λ light h. refl;
  join_valid = join_valid;
  join_count = λ a b ha hb. refl;
  join_total = λ a b ha hb. refl;
  join_covers = λ a b light ha hb hl h. join_covers a b light h;
  count_within = λ c h. h.few;
  total_within = λ c h. h.total;
  reach_within = λ spot c r hs hc. reach_within spot c r hs;
  top_is = λ spot c r hs hc. refl;
  dominates =
      λ ts spot c r light hs hc hl h.
      factor-below oriented_meaning ts spot light (reach spot c r) (seen_dominates spot c r light h);
  sharper = λ spot c hs hc. sharper spot c;
}
