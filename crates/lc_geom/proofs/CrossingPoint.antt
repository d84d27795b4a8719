-- Where a segment crosses a triangle: the mean of the corners by the three volumes, which lies in each box that holds them.
use Rattle.std.proofs.Common.{◌≡◌, ◌+◌, ◌<◌, ◌⊎◌, inl, inr, ⊎_elim, Bool, true, false, arith, refl, ◌∙◌, ℤ, pos, negsuc, ◌+ℤ◌, ◌-ℤ◌, ◌*ℤ◌, ◌≤ℤ◌, ◌<ℤ◌, [], ◌∷◌, List}
use Rattle.std.specs.Prelude.{◌&&◌, ◌||◌, int_lt, int_le}
use Rattle.std.specs.Int.RustNames.{unsigned_abs}
use Rattle.std.proofs.lemmas.Int.{ints}
use Rattle.lc_algebra.proofs.Order.{mul-nonneg, to_difference, add-nonneg3}
use Rattle.lc_algebra.proofs.Poly.{Expression, var, con, ◌⊕◌, ◌⊖◌, ◌⊗◌, ring, ring_from, ring_le, same}
use Rattle.lc_num.specs.Vectors.{dot, cross}
use Rattle.lc_num.specs.declared.vectors.Vec3.{Vec3}
use Rattle.lc_geom.specs.declared.triangle.Tri.{Tri}
use Rattle.lc_geom.specs.Crossing.{are_opposite, have_one_sign, crosses, side, volume}
use Rattle.lc_geom.specs.Points.{IsBetween, DividesBetween, DividesInside}
use Rattle.lc_geom.proofs.CrossingLaws.{first, second, third, fourth, fifth, side_of, volume_of}

-- ---- the identities
abbrev fifteen : Tri → Vec3 → Vec3 → List ℤ
fifteen t p q = t.a.x ∷ t.a.y ∷ t.a.z ∷ t.b.x ∷ t.b.y ∷ t.b.z ∷ t.c.x ∷ t.c.y ∷ t.c.z ∷ p.x ∷ p.y ∷ p.z ∷ q.x ∷ q.y ∷ q.z ∷ []

-- the corners' coordinates a, b, c on one axis, less that of the start, weighed by the volumes
abbrev weighed : Expression → Expression → Expression → Expression → Expression
weighed a b c p =
    volume_of fourth fifth second third ⊗ (a ⊖ p) ⊕ volume_of fourth fifth third first ⊗ (b ⊖ p) ⊕ volume_of fourth fifth first second ⊗ (c ⊖ p)

abbrev along : Expression → Expression → Expression
along p q = (con (pos 0) ⊖ side_of first second third fourth) ⊗ (q ⊖ p)

pub mean_x : (p q : Vec3) (t : Tri) → volume p q t.b t.c *ℤ (t.a.x -ℤ p.x) +ℤ volume p q t.c t.a *ℤ (t.b.x -ℤ p.x) +ℤ volume p q t.a t.b *ℤ (t.c.x -ℤ p.x) ≡ (pos 0 -ℤ side t p) *ℤ (q.x -ℤ p.x)
unfolding dot cross side volume same
mean_x p q t = ring (fifteen t p q) (weighed first.x second.x third.x fourth.x) (along fourth.x fifth.x) refl

pub mean_y : (p q : Vec3) (t : Tri) → volume p q t.b t.c *ℤ (t.a.y -ℤ p.y) +ℤ volume p q t.c t.a *ℤ (t.b.y -ℤ p.y) +ℤ volume p q t.a t.b *ℤ (t.c.y -ℤ p.y) ≡ (pos 0 -ℤ side t p) *ℤ (q.y -ℤ p.y)
unfolding dot cross side volume same
mean_y p q t = ring (fifteen t p q) (weighed first.y second.y third.y fourth.y) (along fourth.y fifth.y) refl

pub mean_z : (p q : Vec3) (t : Tri) → volume p q t.b t.c *ℤ (t.a.z -ℤ p.z) +ℤ volume p q t.c t.a *ℤ (t.b.z -ℤ p.z) +ℤ volume p q t.a t.b *ℤ (t.c.z -ℤ p.z) ≡ (pos 0 -ℤ side t p) *ℤ (q.z -ℤ p.z)
unfolding dot cross side volume same
mean_z p q t = ring (fifteen t p q) (weighed first.z second.z third.z fourth.z) (along fourth.z fifth.z) refl

pub volumes_total : (p q : Vec3) (t : Tri) → volume p q t.b t.c +ℤ volume p q t.c t.a +ℤ volume p q t.a t.b ≡ side t q -ℤ side t p
unfolding dot cross side volume same
volumes_total p q t =
    ring (fifteen t p q)
    (volume_of fourth fifth second third ⊕ volume_of fourth fifth third first ⊕ volume_of fourth fifth first second)
    (side_of first second third fifth ⊖ side_of first second third fourth)
    refl

-- ---- means by weights that are not negative
times_gap : (c a b : ℤ) → pos 0 ≤ℤ c → a ≤ℤ b → pos 0 ≤ℤ (c *ℤ (b -ℤ a))
times_gap c a b h g = mul-nonneg c (b -ℤ a) h (to_difference a b g)

-- the weights u, v, w add up to m, and the mean of a, b, c by them is x farther than p
record Mean (u v w m p a b c x : ℤ) : Type 0 where
  pub first : pos 0 ≤ℤ u
  pub second : pos 0 ≤ℤ v
  pub third : pos 0 ≤ℤ w
  pub sum : u +ℤ v +ℤ w ≡ m
  pub mean : u *ℤ (a -ℤ p) +ℤ v *ℤ (b -ℤ p) +ℤ w *ℤ (c -ℤ p) ≡ x

at_least : (u v w m p a b c x lo : ℤ) → Mean u v w m p a b c x → lo ≤ℤ a → lo ≤ℤ b → lo ≤ℤ c → ((lo -ℤ p) *ℤ m) ≤ℤ x
unfolding same
at_least u v w m p a b c x lo k ha hb hc =
    rw (← k.sum, ← k.mean)
    (ring_le (u ∷ v ∷ w ∷ p ∷ a ∷ b ∷ c ∷ lo ∷ [])
    ((var 7 ⊖ var 3) ⊗ (var 0 ⊕ var 1 ⊕ var 2))
    (var 0 ⊗ (var 4 ⊖ var 3) ⊕ var 1 ⊗ (var 5 ⊖ var 3) ⊕ var 2 ⊗ (var 6 ⊖ var 3))
    (var 0 ⊗ (var 4 ⊖ var 7) ⊕ var 1 ⊗ (var 5 ⊖ var 7) ⊕ var 2 ⊗ (var 6 ⊖ var 7))
    refl
    (add-nonneg3 _ _ _ (times_gap u lo a k.first ha) (times_gap v lo b k.second hb) (times_gap w lo c k.third hc)))

at_most : (u v w m p a b c x hi : ℤ) → Mean u v w m p a b c x → a ≤ℤ hi → b ≤ℤ hi → c ≤ℤ hi → x ≤ℤ ((hi -ℤ p) *ℤ m)
unfolding same
at_most u v w m p a b c x hi k ha hb hc =
    rw (← k.sum, ← k.mean)
    (ring_le (u ∷ v ∷ w ∷ p ∷ a ∷ b ∷ c ∷ hi ∷ [])
    (var 0 ⊗ (var 4 ⊖ var 3) ⊕ var 1 ⊗ (var 5 ⊖ var 3) ⊕ var 2 ⊗ (var 6 ⊖ var 3))
    ((var 7 ⊖ var 3) ⊗ (var 0 ⊕ var 1 ⊕ var 2))
    (var 0 ⊗ (var 7 ⊖ var 4) ⊕ var 1 ⊗ (var 7 ⊖ var 5) ⊕ var 2 ⊗ (var 7 ⊖ var 6))
    refl
    (add-nonneg3 _ _ _ (times_gap u a hi k.first ha) (times_gap v b hi k.second hb) (times_gap w c hi k.third hc)))

-- ---- which sign the weights have
or_cases : (a b : Bool) → (a || b) ≡ true → (a ≡ true) ⊎ (b ≡ true)
or_cases true b e = inl refl
or_cases false b e = inr e

and_both : (a b : Bool) → (a && b) ≡ true → (a ≡ true) × (b ≡ true)
and_both true b e = (refl, e)
and_both false b e = cc

is_less : (a b : ℤ) → int_lt a b ≡ true → a <ℤ b
is_less a b e = grind (arith, ints)

is_most : (a b : ℤ) → int_le a b ≡ true → a ≤ℤ b
is_most a b e = grind (arith, ints)

less_both : (a b c d : ℤ) → (int_lt a b && int_lt c d) ≡ true → (a <ℤ b) × (c <ℤ d)
less_both a b c d e = let h = and_both (int_lt a b) (int_lt c d) e in (is_less a b h.0, is_less c d h.1)

most_all : (a b c d f g : ℤ) → (int_le a b && (int_le c d && int_le f g)) ≡ true → (a ≤ℤ b) × (c ≤ℤ d) × (f ≤ℤ g)
most_all a b c d f g e =
    let h = and_both (int_le a b) (int_le c d && int_le f g) e in
    let k = and_both (int_le c d) (int_le f g) h.1 in
    (is_most a b h.0, is_most c d k.0, is_most f g k.1)

signs_of_ends : (s r : ℤ) → are_opposite s r ≡ true → ((s <ℤ pos 0) × (pos 0 <ℤ r)) ⊎ ((pos 0 <ℤ s) × (r <ℤ pos 0))
signs_of_ends s r e =
    ⊎_elim
    (λ (h : (int_lt s (pos 0) && int_lt (pos 0) r) ≡ true). inl (less_both s (pos 0) (pos 0) r h))
    (λ (h : (int_lt (pos 0) s && int_lt r (pos 0)) ≡ true). inr (less_both (pos 0) s r (pos 0) h))
    (or_cases (int_lt s (pos 0) && int_lt (pos 0) r) (int_lt (pos 0) s && int_lt r (pos 0)) e)

sign_of_all : (u v w : ℤ) → have_one_sign u v w ≡ true → ((pos 0 ≤ℤ u) × (pos 0 ≤ℤ v) × (pos 0 ≤ℤ w)) ⊎ ((u ≤ℤ pos 0) × (v ≤ℤ pos 0) × (w ≤ℤ pos 0))
sign_of_all u v w e =
    ⊎_elim
    (λ (h : (int_le (pos 0) u && (int_le (pos 0) v && int_le (pos 0) w)) ≡ true). inl (most_all (pos 0) u (pos 0) v (pos 0) w h))
    (λ (h : (int_le u (pos 0) && (int_le v (pos 0) && int_le w (pos 0))) ≡ true). inr (most_all u (pos 0) v (pos 0) w (pos 0) h))
    (or_cases (int_le (pos 0) u && (int_le (pos 0) v && int_le (pos 0) w)) (int_le u (pos 0) && (int_le v (pos 0) && int_le w (pos 0))) e)

-- the weights u, v, w, turned if need be, of the segment whose ends have these sides, on an axis with the places a, b, c
-- of the corners and p, q of the ends
module _ (start end u v w p q a b c : ℤ) (sum : u +ℤ v +ℤ w ≡ end -ℤ start) (mean : u *ℤ (a -ℤ p) +ℤ v *ℤ (b -ℤ p) +ℤ w *ℤ (c -ℤ p) ≡ (pos 0 -ℤ start) *ℤ (q -ℤ p)) where
  abbrev whole : ℤ
  whole = pos (unsigned_abs start + unsigned_abs end)

  abbrev part : ℤ
  part = pos (unsigned_abs start) *ℤ (q -ℤ p)

  up : start <ℤ pos 0 → pos 0 <ℤ end → pos 0 ≤ℤ u → pos 0 ≤ℤ v → pos 0 ≤ℤ w → Mean u v w whole p a b c part
  up below above hu hv hw =
      let s : pos 0 -ℤ start ≡ pos (unsigned_abs start) = omega (arith, ints) in
      record { first = hu; second = hv; third = hw; sum = omega (arith, ints); mean = mean ∙ rw s refl }

  turned : (pos 0 -ℤ u) *ℤ (a -ℤ p) +ℤ (pos 0 -ℤ v) *ℤ (b -ℤ p) +ℤ (pos 0 -ℤ w) *ℤ (c -ℤ p) ≡ start *ℤ (q -ℤ p)
  unfolding same
  turned =
      ring_from (u ∷ v ∷ w ∷ p ∷ a ∷ b ∷ c ∷ start ∷ q ∷ [])
      ((con (pos 0) ⊖ var 0) ⊗ (var 4 ⊖ var 3) ⊕ (con (pos 0) ⊖ var 1) ⊗ (var 5 ⊖ var 3) ⊕ (con (pos 0) ⊖ var 2) ⊗ (var 6 ⊖ var 3))
      (var 7 ⊗ (var 8 ⊖ var 3))
      (con (negsuc 0))
      (var 0 ⊗ (var 4 ⊖ var 3) ⊕ var 1 ⊗ (var 5 ⊖ var 3) ⊕ var 2 ⊗ (var 6 ⊖ var 3))
      ((con (pos 0) ⊖ var 7) ⊗ (var 8 ⊖ var 3))
      refl
      mean

  down : pos 0 <ℤ start → end <ℤ pos 0 → u ≤ℤ pos 0 → v ≤ℤ pos 0 → w ≤ℤ pos 0 → Mean (pos 0 -ℤ u) (pos 0 -ℤ v) (pos 0 -ℤ w) whole p a b c part
  down above below hu hv hw =
      let s : start ≡ pos (unsigned_abs start) = omega (arith, ints) in
      record { first = omega (arith, ints); second = omega (arith, ints); third = omega (arith, ints); sum = omega (arith, ints); mean = turned ∙ rw (← s) refl }

  some_mean : are_opposite start end ≡ true → have_one_sign w u v ≡ true → (lo hi : ℤ) → lo ≤ℤ a → a ≤ℤ hi → lo ≤ℤ b → b ≤ℤ hi → lo ≤ℤ c → c ≤ℤ hi → DividesBetween (unsigned_abs start) (unsigned_abs end) lo hi p q
  some_mean opposite one lo hi la ha lb hb lc hc = by_signs (signs_of_ends start end opposite) (sign_of_all w u v one) where
    of_mean : (u v w : ℤ) → Mean u v w whole p a b c part → DividesBetween (unsigned_abs start) (unsigned_abs end) lo hi p q
    of_mean u v w k = record { at_least = at_least u v w whole p a b c part lo k la lb lc; at_most = at_most u v w whole p a b c part hi k ha hb hc }

    by_signs : ((start <ℤ pos 0) × (pos 0 <ℤ end)) ⊎ ((pos 0 <ℤ start) × (end <ℤ pos 0)) → ((pos 0 ≤ℤ w) × (pos 0 ≤ℤ u) × (pos 0 ≤ℤ v)) ⊎ ((w ≤ℤ pos 0) × (u ≤ℤ pos 0) × (v ≤ℤ pos 0)) → DividesBetween (unsigned_abs start) (unsigned_abs end) lo hi p q
    by_signs (inl s) (inl h) = of_mean u v w (up s.0 s.1 h.1 h.2 h.0)
    by_signs (inl s) (inr h) = absurd (omega (arith, ints, sum))
    by_signs (inr s) (inl h) = absurd (omega (arith, ints, sum))
    by_signs (inr s) (inr h) = of_mean (pos 0 -ℤ u) (pos 0 -ℤ v) (pos 0 -ℤ w) (down s.0 s.1 h.1 h.2 h.0)

off_plane : (start end : ℤ) → are_opposite start end ≡ true → (0 < unsigned_abs start) × (0 < unsigned_abs end)
off_plane start end e = by_signs (signs_of_ends start end e) where
  by_signs : ((start <ℤ pos 0) × (pos 0 <ℤ end)) ⊎ ((pos 0 <ℤ start) × (end <ℤ pos 0)) → (0 < unsigned_abs start) × (0 < unsigned_abs end)
  by_signs (inl s) = (omega (arith, ints), omega (arith, ints))
  by_signs (inr s) = (omega (arith, ints), omega (arith, ints))

pub off_start : (p q : Vec3) (t : Tri) → crosses p q t ≡ true → 0 < unsigned_abs (side t p)
unfolding crosses
off_start p q t e = (off_plane (side t p) (side t q) (and_both _ _ e).0).0

pub off_end : (p q : Vec3) (t : Tri) → crosses p q t ≡ true → 0 < unsigned_abs (side t q)
unfolding crosses
off_end p q t e = (off_plane (side t p) (side t q) (and_both _ _ e).0).1

pub inside : (p q low high : Vec3) (t : Tri) → crosses p q t ≡ true → IsBetween low high t.a → IsBetween low high t.b → IsBetween low high t.c → DividesInside (unsigned_abs (side t p)) (unsigned_abs (side t q)) low high p q
unfolding crosses
inside p q low high t e a b c =
    let s = and_both _ _ e in
    let sum = volumes_total p q t in
    record {
      x = some_mean (side t p) (side t q) (volume p q t.b t.c) (volume p q t.c t.a) (volume p q t.a t.b) p.x q.x t.a.x t.b.x t.c.x sum (mean_x p q t) s.0 s.1 low.x high.x a.low_x a.high_x b.low_x b.high_x c.low_x c.high_x;
      y = some_mean (side t p) (side t q) (volume p q t.b t.c) (volume p q t.c t.a) (volume p q t.a t.b) p.y q.y t.a.y t.b.y t.c.y sum (mean_y p q t) s.0 s.1 low.y high.y a.low_y a.high_y b.low_y b.high_y c.low_y c.high_y;
      z = some_mean (side t p) (side t q) (volume p q t.b t.c) (volume p q t.c t.a) (volume p q t.a t.b) p.z q.z t.a.z t.b.z t.c.z sum (mean_z p q t) s.0 s.1 low.z high.z a.low_z a.high_z b.low_z b.high_z c.low_z c.high_z;
    }

-- the three volumes are not all 0
some_volume : (start end u v w : ℤ) → are_opposite start end ≡ true → u +ℤ v +ℤ w ≡ end -ℤ start → 0 < unsigned_abs u + unsigned_abs v + unsigned_abs w
some_volume start end u v w e sum = by_signs (signs_of_ends start end e) where
  by_signs : ((start <ℤ pos 0) × (pos 0 <ℤ end)) ⊎ ((pos 0 <ℤ start) × (end <ℤ pos 0)) → 0 < unsigned_abs u + unsigned_abs v + unsigned_abs w
  by_signs (inl s) = let low = s.0 in let high = s.1 in omega (arith, ints, sum)
  by_signs (inr s) = let low = s.0 in let high = s.1 in omega (arith, ints, sum)

pub weights_some : (p q : Vec3) (t : Tri) → crosses p q t ≡ true → 0 < unsigned_abs (volume p q t.b t.c) + unsigned_abs (volume p q t.c t.a) + unsigned_abs (volume p q t.a t.b)
unfolding crosses
weights_some p q t e =
    some_volume (side t p) (side t q) (volume p q t.b t.c) (volume p q t.c t.a) (volume p q t.a t.b) (and_both _ _ e).0 (volumes_total p q t)
