-- The laws of the kind of suns.
use Rattle.std.proofs.Common.{◌+◌, ◌*◌, ◌^◌, ◌≤◌, ◌⊎◌, inl, inr, le_refl, arith, refl, ℤ, pos, ◌+ℤ◌, ◌*ℤ◌}
use Rattle.std.specs.Int.RustNames.{unsigned_abs}
use Rattle.std.proofs.lemmas.Int.{ints}
use Rattle.lc_num.specs.Channels.{IsRgbWithin, IsAtMost}
use Rattle.lc_num.specs.Vectors.{Within, square}
use Rattle.lc_num.specs.declared.rules.Rule.{Rule}
use Rattle.lc_num.specs.declared.rules.Rule.TheVariants as rule
use Rattle.lc_num.specs.declared.vectors.Vec3.{Vec3}
use Rattle.lc_num.proofs.SquareLemmas.{square_bound}
use Rattle.lc_light.specs.Lights.{IsSun}
use Rattle.lc_light.specs.declared.lights.Sun.{Sun}
use Rattle.lc_terms.specs.Factor.{factor, material}
use Rattle.lc_terms.specs.Kind.{Laws}
use Rattle.lc_terms.specs.SeenLaws.{factor-below}
use Rattle.lc_terms.specs.Spot.{IsSpot}
use Rattle.lc_terms.specs.declared.spot.Spot.{Spot}
use Rattle.lc_bound.specs.Reach.{material_top}
use Rattle.lc_bound.specs.Sun.{Clump, IsClump, Covers, toward, target, geometry, one, join, reach, sun_meaning}
use Rattle.lc_bound.specs.HullLaws.{point_box-inside, point_box-within, hull-within, hull-inside, within_more}
use Rattle.lc_bound.specs.ReachLaws.{material-below, material_top-sharper, material_top-small, times-rises, times-small}

beyond_small : (a d : ℤ) → unsigned_abs a ≤ 50_100_000 → unsigned_abs d ≤ 16384
    → unsigned_abs (a +ℤ (pos 16384 *ℤ d)) ≤ 320_000_000
beyond_small a d ha hd = omega (arith, ints)

target_within : (x : Vec3) (light : Sun) → Within 50_100_000 x → IsSun light → Within 320_000_000 (target x light)
target_within x light hx h = record {
  x = beyond_small x.x light.toward.x hx.x h.toward.x;
  y = beyond_small x.y light.toward.y hx.y h.toward.y;
  z = beyond_small x.z light.toward.z hx.z h.toward.z;
}

one_valid : (light : Sun) → IsSun light → IsClump (one light)
one_valid light h = record {
  box = point_box-within 16384 light.toward h.toward;
  least = omega (arith, square_bound 16384 light.toward h.toward);
  some = omega arith;
  few = omega arith;
  total = h.power;
}

join_valid : (a b : Clump) → IsClump a → IsClump b → a.count + b.count ≤ 65_536 → IsClump (join a b)
join_valid a b ha hb few = record {
  box = hull-within 16384 a.box b.box ha.box hb.box;
  least = omega (arith, ha.least);
  some = omega (arith, ha.some);
  few = few;
  total =
      record {
        r = omega (arith, ha.total.r, hb.total.r);
        g = omega (arith, ha.total.g, hb.total.g);
        b = omega
            (arith, ha.total.b, hb.total.b);
      };
}

join_covers : (a b : Clump) (light : Sun) → Covers a light ⊎ Covers b light → Covers (join a b) light
join_covers a b light (inl h) =
    record { inside = hull-inside a.box b.box light.toward (inl h.inside); long = omega (arith, h.long) }
join_covers a b light (inr h) =
    record { inside = hull-inside a.box b.box light.toward (inr h.inside); long = omega (arith, h.long) }

reach_within : (spot : Spot) (c : Clump) (r : Rule) → IsSpot spot → IsClump c
    → IsRgbWithin (20_000 * 65_536 * 10 ^ 13) (reach spot c r)
reach_within spot c r hs hc =
    times-small (10 ^ 9) (material_top spot c.box c.least r) (omega arith) (material_top-small spot c.box c.least r hs)

-- no sun of the box that is seen has a greater factor than the bound over the box
seen_dominates : (spot : Spot) (c : Clump) (r : Rule) (light : Sun) → IsSpot spot → IsClump c → IsSun light
    → Covers c light → IsAtMost (reach spot c r) (factor spot (toward spot.x light) (geometry spot.x light))
seen_dominates spot c r light hs hc hl covered =
    times-rises (10 ^ 9) (10 ^ 9) (material spot light.toward) (material_top spot c.box c.least r) (le_refl (10 ^ 9))
    (material-below spot c.box c.least r light.toward covered.inside covered.long)

sharper : (spot : Spot) (c : Clump) → IsAtMost (reach spot c rule.One) (reach spot c rule.Two)
sharper spot c =
    times-rises (10 ^ 9) (10 ^ 9) (material_top spot c.box c.least rule.Two)
    (material_top spot c.box c.least rule.One) (le_refl (10 ^ 9))
    (material_top-sharper spot c.box c.least)

pub sun_laws : Laws sun_meaning
sun_laws = record {
  place_within = λ light h. within_more 16384 50_000_000 light.toward (omega arith) h.toward;
  power_within = λ light h. h.power;
  toward_within = λ x light hx h. within_more 16384 100_100_000 light.toward (omega arith) h.toward;
  target_within = target_within;
  geometry_within = λ x light hx h. omega arith;
  one_valid = one_valid;
  one_count = λ light h. refl;
  one_covers = λ light h. record { inside = point_box-inside light.toward; long = le_refl (square light.toward) };
  one_total = λ light h. refl;
  join_valid = join_valid;
  join_count = λ a b ha hb. refl;
  join_total = λ a b ha hb. refl;
  join_covers = λ a b light ha hb hl h. join_covers a b light h;
  count_within = λ c h. h.few;
  total_within = λ c h. h.total;
  reach_within = reach_within;
  top_is = λ spot c r hs hc. refl;
  dominates =
      λ ts spot c r light hs hc hl h.
      factor-below sun_meaning ts spot light (reach spot c r) (seen_dominates spot c r light hs hc hl h);
  sharper = λ spot c hs hc. sharper spot c;
}
