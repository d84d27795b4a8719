-- The plainest kind, which tests use: lamps with a place and an intensity, whose geometric term is 0. Clumps are the
-- summed intensity and the count.
use Rattle.std.proofs.Common.{◌≡◌, ℕ, ◌+◌, ◌*◌, ◌≤◌, ◌^◌, arith, refl}
use Rattle.lc_num.specs.Channels.{black, IsPowerWithin, power_plus, times, IsAtMost}
use Rattle.lc_num.specs.Vectors.{Within, zero_vector}
use Rattle.lc_num.specs.declared.vectors.Vec3.{Vec3}
use Rattle.lc_num.specs.declared.channels.Rgb.{Rgb}
use Rattle.lc_num.specs.declared.channels.Power.{Power}
use Rattle.lc_terms.specs.Factor.{material}
use Rattle.lc_terms.specs.Kind.{Meaning, Laws}
use Rattle.lc_terms.specs.SeenLaws.{black-below, factor-below}

abbrev pub Lamp : Type 0
Lamp = Vec3 × Power

abbrev pub Pile : Type 0
Pile = Power × ℕ

pub record IsLamp (l : Lamp) : Type 0 where
  pub place : Within 50_000_000 l.0
  pub power : IsPowerWithin (10 ^ 8) l.1

pub record IsPile (c : Pile) : Type 0 where
  pub count : c.1 ≤ 65_536
  pub total : IsPowerWithin (10 ^ 8 * c.1) c.0

abbrev pub lamp_meaning : Meaning Lamp Pile
lamp_meaning = record {
  valid_light = IsLamp;
  valid_clump = IsPile;
  count = λ c. c.1;
  covers = λ c l. Unit {0};
  reach = λ s c r. black;
  place = λ l. l.0;
  power = λ l. l.1;
  toward = λ x l. zero_vector;
  target = λ x l. zero_vector;
  geometry = λ x l. 0;
  one = λ l. (l.1, 1);
  join = λ a b. (power_plus a.0 b.0, a.1 + b.1);
  total = λ c. c.0;
  top = λ s c r. black;
}

zero_within : (m : ℕ) → Within m zero_vector
zero_within m = record { x = omega arith; y = omega arith; z = omega arith }

one_pile : (l : Lamp) → IsLamp l → IsPile (l.1, 1)
one_pile l h =
    record {
      count = omega arith;
      total = record {
        r = omega (arith, h.power.r);
        g = omega
            (arith, h.power.g);
        b = omega (arith, h.power.b);
      };
    }

join_piles : (a b : Pile) → IsPile a → IsPile b → a.1 + b.1 ≤ 65_536 → IsPile (power_plus a.0 b.0, a.1 + b.1)
join_piles a b ha hb few = record {
  count = few;
  total =
      record {
        r = omega (arith, ha.total.r, hb.total.r);
        g = omega (arith, ha.total.g, hb.total.g);
        b = omega
            (arith, ha.total.b, hb.total.b);
      };
}

same_black : (r g b : ℕ) → r ≡ 0 → g ≡ 0 → b ≡ 0 → ◌≡◌ {A = Rgb} black (record { r = r; g = g; b = b })
same_black r g b e f h = cc

no_more : (c : Rgb) → IsAtMost black (times 0 c)
no_more c = record { r = omega arith; g = omega arith; b = omega arith }

pub lamp_laws : Laws lamp_meaning
lamp_laws = record {
  place_within = λ l h. h.place;
  power_within = λ l h. h.power;
  toward_within = λ x l hx h. zero_within 100_100_000;
  target_within = λ x l hx h. zero_within 320_000_000;
  geometry_within = λ x l hx h. omega arith;
  one_valid = one_pile;
  one_count = λ l h. refl;
  one_covers = λ l h. tt;
  one_total = λ l h. refl;
  join_valid = join_piles;
  join_count = λ a b ha hb. refl;
  join_total = λ a b ha hb. refl;
  join_covers = λ a b l ha hb hl h. tt;
  count_within = λ c h. h.count;
  total_within = λ c h. h.total;
  reach_within = λ s c r hs hc. record { r = omega arith; g = omega arith; b = omega arith };
  top_is = λ s c r hs hc. same_black (0 * c.0.r) (0 * c.0.g) (0 * c.0.b) (omega arith) (omega arith) (omega arith);
  dominates = λ ts s c r l hs hc hl h. factor-below lamp_meaning ts s l black (no_more (material s zero_vector));
  sharper = λ s c hs hc. black-below black;
}
