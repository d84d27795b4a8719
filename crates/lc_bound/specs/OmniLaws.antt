-- The laws of the kind of omnidirectional lights.
use Rattle.std.proofs.Common.{◌+◌, ◌*◌, ◌^◌, ◌≤◌, arith, le_refl, refl}
use Rattle.lc_num.specs.Channels.{IsRgbWithin, IsAtMost}
use Rattle.lc_num.specs.Vectors.{Within, difference, square}
use Rattle.lc_num.specs.Boxes.{near2}
use Rattle.lc_num.specs.declared.rules.Rule.{Rule}
use Rattle.lc_num.specs.declared.rules.Rule.TheVariants as rule
use Rattle.lc_num.specs.declared.vectors.Vec3.{Vec3}
use Rattle.lc_num.proofs.BoxLemmas.{near2-least}
use Rattle.lc_light.specs.Lights.{IsOmni}
use Rattle.lc_light.specs.declared.lights.Omni.{Omni}
use Rattle.lc_terms.specs.Factor.{factor, material}
use Rattle.lc_terms.specs.Kind.{Laws}
use Rattle.lc_terms.specs.SeenLaws.{factor-below}
use Rattle.lc_terms.specs.Spot.{IsSpot}
use Rattle.lc_terms.specs.declared.spot.Spot.{Spot}
use Rattle.lc_bound.specs.Hull.{box_from}
use Rattle.lc_bound.specs.Reach.{falloff, material_top}
use Rattle.lc_bound.specs.Omni.{Clump, IsClump, Covers, toward, geometry, one, join, reach, omni_meaning}
use Rattle.lc_bound.specs.HullLaws.{point_box-inside, point_box-within, hull-within, hull-inside, within_more, difference-within, box_from-inside}
use Rattle.lc_bound.specs.ReachLaws.{falloff-falls, falloff-small, material-below, material_top-sharper, material_top-small, times-rises, times-small}

toward_within : (x : Vec3) (light : Omni) → Within 50_100_000 x → IsOmni light → Within 100_100_000 (toward x light)
toward_within x light hx h = difference-within 50_000_000 50_100_000 light.place x h.place hx

one_valid : (light : Omni) → IsOmni light → IsClump (one light)
one_valid light h = record {
  box = point_box-within 50_000_000 light.place h.place;
  some = omega arith;
  few = omega arith;
  total = h.power;
}

join_valid : (a b : Clump) → IsClump a → IsClump b → a.count + b.count ≤ 65_536 → IsClump (join a b)
join_valid a b ha hb few = record {
  box = hull-within 50_000_000 a.box b.box ha.box hb.box;
  some = omega (arith, ha.some);
  few = few;
  total =
      record {
        r = omega (arith, ha.total.r, hb.total.r);
        g = omega (arith, ha.total.g, hb.total.g);
        b = omega
            (arith, ha.total.b, hb.total.b);
      };
}

reach_within : (spot : Spot) (c : Clump) (r : Rule) → IsSpot spot → IsClump c
    → IsRgbWithin (20_000 * 65_536 * 10 ^ 13) (reach spot c r)
reach_within spot c r hs hc =
    times-small (falloff (near2 spot.x c.box)) (material_top spot (box_from spot.x c.box) (near2 spot.x c.box) r)
    (falloff-small (near2 spot.x c.box))
    (material_top-small spot (box_from spot.x c.box) (near2 spot.x c.box) r hs)

-- no light of the box that is seen has a greater factor than the bound at the box's least distance
seen_dominates : (spot : Spot) (c : Clump) (r : Rule) (light : Omni) → IsSpot spot → IsClump c → IsOmni light
    → Covers c light → IsAtMost (reach spot c r) (factor spot (toward spot.x light) (geometry spot.x light))
seen_dominates spot c r light hs hc hl inside =
    let near = near2-least spot.x c.box light.place inside in
    times-rises (geometry spot.x light) (falloff (near2 spot.x c.box)) (material spot (toward spot.x light))
    (material_top spot (box_from spot.x c.box) (near2 spot.x c.box) r)
    (falloff-falls (near2 spot.x c.box) (square (difference light.place spot.x)) near)
    (material-below spot (box_from spot.x c.box) (near2 spot.x c.box) r (difference light.place spot.x)
    (box_from-inside spot.x c.box light.place inside) near)

sharper : (spot : Spot) (c : Clump) → IsAtMost (reach spot c rule.One) (reach spot c rule.Two)
sharper spot c =
    let box = box_from spot.x c.box in
    let near = near2 spot.x c.box in
    times-rises (falloff near) (falloff near) (material_top spot box near rule.Two)
    (material_top spot box near rule.One)
    (le_refl (falloff near))
    (material_top-sharper spot box near)

pub omni_laws : Laws omni_meaning
omni_laws = record {
  place_within = λ light h. h.place;
  power_within = λ light h. h.power;
  toward_within = toward_within;
  target_within = λ x light hx h. within_more 50_000_000 320_000_000 light.place (omega arith) h.place;
  geometry_within = λ x light hx h. falloff-small (square (difference light.place x));
  one_valid = one_valid;
  one_count = λ light h. refl;
  one_covers = λ light h. point_box-inside light.place;
  one_total = λ light h. refl;
  join_valid = join_valid;
  join_count = λ a b ha hb. refl;
  join_total = λ a b ha hb. refl;
  join_covers = λ a b light ha hb hl h. hull-inside a.box b.box light.place h;
  count_within = λ c h. h.few;
  total_within = λ c h. h.total;
  reach_within = reach_within;
  top_is = λ spot c r hs hc. refl;
  dominates =
      λ ts spot c r light hs hc hl h.
      factor-below omni_meaning ts spot light (reach spot c r) (seen_dominates spot c r light hs hc hl h);
  sharper = λ spot c hs hc. sharper spot c;
}
