-- The lit tree of a light tree: its estimates and full sums are within its bounds, and all of them are limited.
use Rattle.std.proofs.Common.{◌≡◌, ℕ, ◌+◌, ◌*◌, ◌≤◌, ◌^◌, List, [], ◌∷◌, sum_by, refl, ap, sym, ◌∙◌, arith, All}
use Rattle.std.proofs.Math.Nat.{mul-le-mul_right, mul-le-mul}
use Rattle.std.proofs.lemmas.List.Sums.{sum_by-cons, sum_by-append}
use Rattle.std.proofs.lemmas.List.Elements.{All-head, All-tail, All-weaker, All-contains}
use Rattle.lc_num.specs.Channels.{IsRgbWithin, IsPowerWithin, by_power, power_plus, IsAtMost}
use Rattle.lc_num.specs.declared.channels.Rgb.{Rgb}
use Rattle.lc_num.specs.declared.channels.Power.{Power}
use Rattle.lc_num.specs.declared.rules.Rule.{Rule}
use Rattle.lc_num.specs.declared.rules.Rule.TheVariants as rule
use Rattle.lc_geom.specs.declared.triangle.Tri.{Tri}
use Rattle.lc_terms.specs.Kind.{Meaning, Laws, factor_of}
use Rattle.lc_terms.specs.Spot.{IsSpot}
use Rattle.lc_terms.specs.declared.spot.Spot.{Spot}
use Rattle.lc_tree.specs.Node.{Node, leaf, fork, leader, members, clump_of, leaf_count}
use Rattle.lc_tree.specs.Rows.{IsNumbered, IsLed}
use Rattle.lc_tree.specs.Cover.{power_sum}
use Rattle.lc_tree.proofs.Cover.{Holds, holds, leads_member, powers, sum_of_one}
use Rattle.lc_rated.specs.LitTrees.{full_of, IsBounded, IsLimited, red, green, blue, most_of_leaf}
use Rattle.lc_rated.specs.LitTrees as lits
use Rattle.lc_cut.specs.Contribution.{contribution}
use Rattle.lc_cut.specs.Lit.{channel_bound, node_bound, est_of, lit}

-- a channel of colours and of intensities
pub record IsChannel (c : Rgb → ℕ) (w : Power → ℕ) : Type 0 where
  pub by : (a : Rgb) (p : Power) → c (by_power a p) ≡ c a * w p
  pub plus : (p q : Power) → w (power_plus p q) ≡ w p + w q
  pub dark : c (record { r = 0; g = 0; b = 0 }) ≡ 0
  pub below : (most a : Rgb) → IsAtMost most a → c a ≤ c most
  pub rgb : (a : Rgb) (n : ℕ) → IsRgbWithin n a → c a ≤ n
  pub power : (p : Power) (n : ℕ) → IsPowerWithin n p → w p ≤ n
  pub bound : (r : Rule) (est top : Rgb) → c (node_bound r est top) ≡ channel_bound r (c est) (c top)

pub red_channel : IsChannel red (λ p. p.r)
red_channel = record { by = λ a p. refl; plus = λ p q. refl; dark = refl; below = λ most a h. h.r; rgb = λ a n h. h.r; power = λ p n h. h.r; bound = λ r est top. refl }

pub green_channel : IsChannel green (λ p. p.g)
green_channel = record { by = λ a p. refl; plus = λ p q. refl; dark = refl; below = λ most a h. h.g; rgb = λ a n h. h.g; power = λ p n h. h.g; bound = λ r est top. refl }

pub blue_channel : IsChannel blue (λ p. p.b)
blue_channel = record { by = λ a p. refl; plus = λ p q. refl; dark = refl; below = λ most a h. h.b; rgb = λ a n h. h.b; power = λ p n h. h.b; bound = λ r est top. refl }

-- where neither an estimate nor a sum is above the top, they differ by at most the bound, and the bound is limited as they are
pub bound_covers : (r : Rule) (est top sum : ℕ) → est ≤ top → sum ≤ top → (est ≤ sum + channel_bound r est top) × (sum ≤ est + channel_bound r est top)
bound_covers rule.One est top sum he hs = (omega arith, omega arith)
bound_covers rule.Two est top sum he hs = (omega arith, omega arith)

bound_limited : (r : Rule) (est top most : ℕ) → est ≤ most → top ≤ most → channel_bound r est top ≤ most
bound_limited rule.One est top most he ht = ht
bound_limited rule.Two est top most he ht = omega arith

-- the second rule's bound is nowhere above the first one's, of which the estimate is none above the lesser top
pub bound_sharper : (est top least : ℕ) → est ≤ least → least ≤ top → channel_bound rule.Two est least ≤ channel_bound rule.One est top
bound_sharper est top least he ht = omega arith

module _ {L C : Type 0} where
  power_sum-cons : (m : Meaning L C) (l : L) (ls : List L) → power_sum m (l ∷ ls) ≡ power_plus (m.power l) (power_sum m ls)
  power_sum-cons m l ls =
      powers _ _ _ _ _ _ (sum_by-cons (λ k. (m.power k).r) l ls) (sum_by-cons (λ k. (m.power k).g) l ls) (sum_by-cons (λ k. (m.power k).b) l ls)

  pub leaves_lit : (m : Meaning L C) (ts : List Tri) (spot : Spot) (r : Rule) (t : Node L) → lits.leaf_count (lit m ts spot r t) ≡ leaf_count t
  leaves_lit m ts spot r (leaf n l) = refl
  leaves_lit m ts spot r (fork n l a b) = omega (arith, leaves_lit m ts spot r a, leaves_lit m ts spot r b)

  -- the full sum of a lit tree is that of its members
  pub full_members : (c : Rgb → ℕ) (m : Meaning L C) (ts : List Tri) (spot : Spot) (r : Rule) (t : Node L) → full_of c (lit m ts spot r t) ≡ sum_by (λ l. c (contribution m ts spot l)) (members t)
  full_members c m ts spot r (leaf n l) =
      let e : c (by_power (factor_of m ts spot l) (power_sum m (l ∷ []))) ≡ c (by_power (factor_of m ts spot l) (m.power l)) = ap (λ p. c (by_power (factor_of m ts spot l) p)) (sym (sum_of_one m l)) in
      omega (arith, e, sum_by-cons (λ k. c (contribution m ts spot k)) l [])
  full_members c m ts spot r (fork n l a b) =
      omega (arith, full_members c m ts spot r a, full_members c m ts spot r b, sum_by-append (λ k. c (contribution m ts spot k)) (members a) (members b))

module _ {L C : Type 0} (c : Rgb → ℕ) (w : Power → ℕ) (ch : IsChannel c w) (m : Meaning L C) (ts : List Tri) (spot : Spot) where
  -- contributions whose factors are at most so much are together at most that times the summed intensity
  contributions_below : (most : ℕ) (ls : List L) → All (λ l. c (factor_of m ts spot l) ≤ most) ls → sum_by (λ l. c (contribution m ts spot l)) ls ≤ most * w (power_sum m ls)
  contributions_below most [] h = omega arith
  contributions_below most (l ∷ ls) h =
      let le : c (factor_of m ts spot l) ≤ most = All-head (λ k. c (factor_of m ts spot k) ≤ most) l ls h in
      let first : c (factor_of m ts spot l) * w (m.power l) ≤ most * w (m.power l) = mul-le-mul_right (w (m.power l)) le in
      let rest : sum_by (λ k. c (contribution m ts spot k)) ls ≤ most * w (power_sum m ls) = contributions_below most ls (All-tail (λ k. c (factor_of m ts spot k) ≤ most) l ls h) in
      let here : c (contribution m ts spot l) ≡ c (factor_of m ts spot l) * w (m.power l) = ch.by (factor_of m ts spot l) (m.power l) in
      let sums : w (power_sum m (l ∷ ls)) ≡ w (m.power l) + w (power_sum m ls) = ap w (power_sum-cons m l ls) ∙ ch.plus (m.power l) (power_sum m ls) in
      rw sums (omega (arith, first, rest, here, sum_by-cons (λ k. c (contribution m ts spot k)) l ls))

  module _ (laws : Laws m) (hs : IsSpot spot) (lights : List L) (valid : All m.valid_light lights) (r : Rule) where
    -- no light below a node passes the reach of its clump
    factors_below : (t : Node L) → Holds m t (clump_of m.one m.join t) → All (λ l. c (factor_of m ts spot l) ≤ c (m.reach spot (clump_of m.one m.join t) r)) (members t)
    factors_below t h =
        let k : C = clump_of m.one m.join t in
        All-weaker (λ l. m.valid_light l × m.covers k l) (λ l. c (factor_of m ts spot l) ≤ c (m.reach spot k r))
        (λ l q. ch.below (m.reach spot k r) (factor_of m ts spot l) (laws.dominates ts spot k r l hs h.valid q.0 q.1)) (members t) h.covers

    leading_below : (t : Node L) → IsLed t → Holds m t (clump_of m.one m.join t) → c (factor_of m ts spot (leader t)) ≤ c (m.reach spot (clump_of m.one m.join t) r)
    leading_below t led h =
        All-contains (λ l. c (factor_of m ts spot l) ≤ c (m.reach spot (clump_of m.one m.join t) r)) (members t) (leader t) (factors_below t h) (leads_member t led)

    top_is : (t : Node L) → Holds m t (clump_of m.one m.join t) → c (m.top spot (clump_of m.one m.join t) r) ≡ c (m.reach spot (clump_of m.one m.join t) r) * w (power_sum m (members t))
    top_is t h =
        let k : C = clump_of m.one m.join t in
        ap c (laws.top_is spot k r hs h.valid) ∙ ch.by (m.reach spot k r) (m.total k) ∙ ap (λ p. c (m.reach spot k r) * w p) h.total

    -- neither the estimate of a node nor the sum over its members is above its top
    pub est_below : (t : Node L) → IsLed t → Holds m t (clump_of m.one m.join t) → c (est_of m ts spot t) ≤ c (m.top spot (clump_of m.one m.join t) r)
    est_below t led h =
        rw (ch.by (factor_of m ts spot (leader t)) (power_sum m (members t)), top_is t h) (mul-le-mul_right (w (power_sum m (members t))) (leading_below t led h))

    pub sum_below : (t : Node L) → Holds m t (clump_of m.one m.join t) → sum_by (λ l. c (contribution m ts spot l)) (members t) ≤ c (m.top spot (clump_of m.one m.join t) r)
    sum_below t h =
        rw (top_is t h) (contributions_below (c (m.reach spot (clump_of m.one m.join t) r)) (members t) (factors_below t h))

    -- at each node the estimate and the full sum differ by at most the bound
    pub lit_bounded : (t : Node L) → IsNumbered lights t → IsLed t → leaf_count t ≤ 65536 → IsBounded c (lit m ts spot r t)
    lit_bounded (leaf n l) at led few = tt
    lit_bounded (fork n l a b) at led few =
        let t : Node L = fork n l a b in
        let k : C = clump_of m.one m.join t in
        let h : Holds m t k = holds m laws lights valid t at few in
        let sum : ℕ = sum_by (λ x. c (contribution m ts spot x)) (members t) in
        let full : full_of c (lit m ts spot r a) + full_of c (lit m ts spot r b) ≡ sum = full_members c m ts spot r t in
        let near = bound_covers r (c (est_of m ts spot t)) (c (m.top spot k r)) sum (est_below t led h) (sum_below t h) in (
          rw (ch.bound r (est_of m ts spot t) (m.top spot k r), full) near.0,
          rw (ch.bound r (est_of m ts spot t) (m.top spot k r), full) near.1,
          lit_bounded a at.1 led.1 (omega (arith, few)),
          lit_bounded b at.2 led.2 (omega (arith, few)),
        )

    -- the factor of a representative and the summed intensity are limited
    factor_limited : (t : Node L) → IsLed t → Holds m t (clump_of m.one m.join t) → c (factor_of m ts spot (leader t)) ≤ 20000 * 65536 * 10 ^ 13
    factor_limited t led h =
        let k : C = clump_of m.one m.join t in
        omega (arith, leading_below t led h, ch.rgb (m.reach spot k r) (20000 * 65536 * 10 ^ 13) (laws.reach_within spot k r hs h.valid))

    power_limited : (t : Node L) → Holds m t (clump_of m.one m.join t) → w (power_sum m (members t)) ≤ 10 ^ 8 * leaf_count t
    power_limited t h =
        let k : C = clump_of m.one m.join t in
        let le : w (m.total k) ≤ 10 ^ 8 * m.count k = ch.power (m.total k) (10 ^ 8 * m.count k) (laws.total_within k h.valid) in
        omega (arith, le, h.count, ap w h.total)

    est_limited : (t : Node L) → IsLed t → Holds m t (clump_of m.one m.join t) → c (est_of m ts spot t) ≤ most_of_leaf * leaf_count t
    est_limited t led h =
        let p : c (factor_of m ts spot (leader t)) * w (power_sum m (members t)) ≤ (20000 * 65536 * 10 ^ 13) * (10 ^ 8 * leaf_count t) = mul-le-mul (factor_limited t led h) (power_limited t h) in
        rw (ch.by (factor_of m ts spot (leader t)) (power_sum m (members t))) (omega (arith, p))

    top_limited : (t : Node L) → Holds m t (clump_of m.one m.join t) → c (m.top spot (clump_of m.one m.join t) r) ≤ most_of_leaf * leaf_count t
    top_limited t h =
        let k : C = clump_of m.one m.join t in
        let reach : c (m.reach spot k r) ≤ 20000 * 65536 * 10 ^ 13 = ch.rgb (m.reach spot k r) (20000 * 65536 * 10 ^ 13) (laws.reach_within spot k r hs h.valid) in
        let p : c (m.reach spot k r) * w (power_sum m (members t)) ≤ (20000 * 65536 * 10 ^ 13) * (10 ^ 8 * leaf_count t) = mul-le-mul reach (power_limited t h) in
        rw (top_is t h) (omega (arith, p))

    -- no estimate and no bound is above what a light can give for each leaf
    pub lit_limited : (t : Node L) → IsNumbered lights t → IsLed t → leaf_count t ≤ 65536 → IsLimited c most_of_leaf (lit m ts spot r t)
    lit_limited (leaf n l) at led few =
        let e : c (est_of m ts spot (leaf n l)) ≤ most_of_leaf * leaf_count (leaf n l) = est_limited (leaf n l) led (holds m laws lights valid (leaf n l) at few) in omega (arith, e)
    lit_limited (fork n l a b) at led few =
        let h : Holds m (fork n l a b) (clump_of m.one m.join (fork n l a b)) = holds m laws lights valid (fork n l a b) at few in
        let na : lits.leaf_count (lit m ts spot r a) ≡ leaf_count a = leaves_lit m ts spot r a in
        let nb : lits.leaf_count (lit m ts spot r b) ≡ leaf_count b = leaves_lit m ts spot r b in (
          rw (na, nb) (est_limited (fork n l a b) led h),
          rw (ch.bound r (est_of m ts spot (fork n l a b)) (m.top spot (clump_of m.one m.join (fork n l a b)) r), na, nb)
              (bound_limited r _ _ (most_of_leaf * leaf_count (fork n l a b)) (est_limited (fork n l a b) led h) (top_limited (fork n l a b) h)),
          lit_limited a at.1 led.1 (omega (arith, few)),
          lit_limited b at.2 led.2 (omega (arith, few)),
        )
