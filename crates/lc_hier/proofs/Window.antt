-- Where a segment comes to what lies between two places of an axis, and where it leaves it: what the products of a slab bound.
use Rattle.std.proofs.Common.{◌≡◌, ℕ, ◌+◌, ◌*◌, ◌<◌, ◌≤◌, Bool, true, false, arith, refl, ℤ, pos, ◌+ℤ◌, ◌-ℤ◌, ◌*ℤ◌, ◌≤ℤ◌, ◌<ℤ◌, [], ◌∷◌, ◌^◌, ◌/◌}
use Rattle.std.specs.Prelude.{if◌then◌else◌, cond, int_lt}
use Rattle.std.specs.Int.{int_min, int_max}
use Rattle.std.proofs.lemmas.Int.{ints, by_lt_z}
use Rattle.std.proofs.lemmas.Nat.{pow-add, pow_pos}
use Rattle.std.proofs.Math.Nat.{lt-mul-div-succ, mul-le-mul_left, mul-lt-mul_of_pos_left}
use Rattle.lc_algebra.proofs.Order.{mul-nonneg, to_difference}
use Rattle.lc_algebra.proofs.Poly.{var, con, ◌⊕◌, ◌⊖◌, ◌⊗◌, ring, ring_le, same}
use Rattle.lc_hier.specs.declared.slab.Slab.{Slab}
use Rattle.lc_hier.specs.Slabs.{Serves}

sum_nonneg : (a b : ℤ) → pos 0 ≤ℤ a → pos 0 ≤ℤ b → pos 0 ≤ℤ (a +ℤ b)
sum_nonneg a b h g = omega (arith, ints)

-- what a product with a difference is, of the signs of both
times_gap : (c a b : ℤ) → pos 0 ≤ℤ c → a ≤ℤ b → pos 0 ≤ℤ (c *ℤ (b -ℤ a))
times_gap c a b h g = mul-nonneg c (b -ℤ a) h (to_difference a b g)

back_gap : (c a b : ℤ) → c ≤ℤ pos 0 → a ≤ℤ b → pos 0 ≤ℤ ((pos 0 -ℤ c) *ℤ (b -ℤ a))
back_gap c a b h g = mul-nonneg (pos 0 -ℤ c) (b -ℤ a) (to_difference c (pos 0) h) (to_difference a b g)

-- The segment from p to q is at s / n of it; `whole` is all of it, x a place, and low and high are reciprocals.
-- ---- the entry
entry_forward : (x p q low whole s n : ℤ) → pos 0 ≤ℤ low → pos 0 ≤ℤ s → (low *ℤ (q -ℤ p)) ≤ℤ whole → ((x -ℤ p) *ℤ n) ≤ℤ (s *ℤ (q -ℤ p)) → (((x -ℤ p) *ℤ low) *ℤ n) ≤ℤ (whole *ℤ s)
unfolding same
entry_forward x p q low whole s n hl hs h g =
    ring_le (x ∷ p ∷ q ∷ low ∷ whole ∷ s ∷ n ∷ [])
    ((var 0 ⊖ var 1) ⊗ var 3 ⊗ var 6)
    (var 4 ⊗ var 5)
    (var 5 ⊗ (var 4 ⊖ var 3 ⊗ (var 2 ⊖ var 1)) ⊕ var 3 ⊗ (var 5 ⊗ (var 2 ⊖ var 1) ⊖ (var 0 ⊖ var 1) ⊗ var 6))
    refl
    (sum_nonneg _ _ (times_gap s _ _ hs h) (times_gap low _ _ hl g))

entry_back : (x p q low whole s n : ℤ) → low ≤ℤ pos 0 → pos 0 ≤ℤ s → (low *ℤ (q -ℤ p)) ≤ℤ whole → (s *ℤ (q -ℤ p)) ≤ℤ ((x -ℤ p) *ℤ n) → (((x -ℤ p) *ℤ low) *ℤ n) ≤ℤ (whole *ℤ s)
unfolding same
entry_back x p q low whole s n hl hs h g =
    ring_le (x ∷ p ∷ q ∷ low ∷ whole ∷ s ∷ n ∷ [])
    ((var 0 ⊖ var 1) ⊗ var 3 ⊗ var 6)
    (var 4 ⊗ var 5)
    (var 5 ⊗ (var 4 ⊖ var 3 ⊗ (var 2 ⊖ var 1)) ⊕ (con (pos 0) ⊖ var 3) ⊗ ((var 0 ⊖ var 1) ⊗ var 6 ⊖ var 5 ⊗ (var 2 ⊖ var 1)))
    refl
    (sum_nonneg _ _ (times_gap s _ _ hs h) (back_gap low _ _ hl g))

-- ---- the exit: `wide` is p or behind it
exit_forward : (x p q wide high whole s n : ℤ) → pos 0 ≤ℤ high → pos 0 ≤ℤ s → s ≤ℤ n → wide ≤ℤ p → whole ≤ℤ (high *ℤ (q -ℤ wide)) → (s *ℤ (q -ℤ p)) ≤ℤ ((x -ℤ p) *ℤ n) → (whole *ℤ s) ≤ℤ (((x -ℤ wide) *ℤ high) *ℤ n)
unfolding same
exit_forward x p q wide high whole s n hh hs hn hw h g =
    ring_le (x ∷ p ∷ q ∷ wide ∷ high ∷ whole ∷ s ∷ n ∷ [])
    (var 5 ⊗ var 6)
    ((var 0 ⊖ var 3) ⊗ var 4 ⊗ var 7)
    (var 6 ⊗ (var 4 ⊗ (var 2 ⊖ var 3) ⊖ var 5) ⊕ var 4 ⊗ ((var 0 ⊖ var 1) ⊗ var 7 ⊖ var 6 ⊗ (var 2 ⊖ var 1)) ⊕ (var 4 ⊗ (var 1 ⊖ var 3)) ⊗ (var 7 ⊖ var 6))
    refl
    (sum_nonneg _ _ (sum_nonneg _ _ (times_gap s _ _ hs h) (times_gap high _ _ hh g)) (times_gap (high *ℤ (p -ℤ wide)) _ _ (times_gap high _ _ hh hw) hn))

exit_back : (x p q wide high whole s n : ℤ) → high ≤ℤ pos 0 → pos 0 ≤ℤ s → s ≤ℤ n → p ≤ℤ wide → whole ≤ℤ (high *ℤ (q -ℤ wide)) → ((x -ℤ p) *ℤ n) ≤ℤ (s *ℤ (q -ℤ p)) → (whole *ℤ s) ≤ℤ (((x -ℤ wide) *ℤ high) *ℤ n)
unfolding same
exit_back x p q wide high whole s n hh hs hn hw h g =
    ring_le (x ∷ p ∷ q ∷ wide ∷ high ∷ whole ∷ s ∷ n ∷ [])
    (var 5 ⊗ var 6)
    ((var 0 ⊖ var 3) ⊗ var 4 ⊗ var 7)
    (var 6 ⊗ (var 4 ⊗ (var 2 ⊖ var 3) ⊖ var 5) ⊕ (con (pos 0) ⊖ var 4) ⊗ (var 6 ⊗ (var 2 ⊖ var 1) ⊖ (var 0 ⊖ var 1) ⊗ var 7) ⊕ ((con (pos 0) ⊖ var 4) ⊗ (var 3 ⊖ var 1)) ⊗ (var 7 ⊖ var 6))
    refl
    (sum_nonneg _ _ (sum_nonneg _ _ (times_gap s _ _ hs h) (back_gap high _ _ hh g)) (times_gap ((pos 0 -ℤ high) *ℤ (wide -ℤ p)) _ _ (back_gap high _ _ hh hw) hn))

-- ---- a slab's entry and exit
abbrev pub entry_of : Slab → ℤ → ℤ → ℤ
entry_of slab low high = ((if slab.backward then high else low) -ℤ slab.start) *ℤ slab.low

abbrev pub exit_of : Slab → ℤ → ℤ → ℤ
exit_of slab low high = ((if slab.backward then low else high) -ℤ slab.wide) *ℤ slab.high

module _ (slab : Slab) (whole : ℕ) (p q low high s n : ℤ) (serves : Serves whole p q slab) (some : pos 0 ≤ℤ s) (part : s ≤ℤ n) (from : ((low -ℤ p) *ℤ n) ≤ℤ (s *ℤ (q -ℤ p))) (to : (s *ℤ (q -ℤ p)) ≤ℤ ((high -ℤ p) *ℤ n)) where
  pub no_earlier : (entry_of slab low high *ℤ n) ≤ℤ (pos whole *ℤ s)
  no_earlier = by_sign slab.backward refl where
    by_sign : (t : Bool) → slab.backward ≡ t → ((((if t then high else low) -ℤ slab.start) *ℤ slab.low) *ℤ n) ≤ℤ (pos whole *ℤ s)
    by_sign true e = rw serves.start (entry_back high p q slab.low (pos whole) s n (serves.backward e).0 some serves.low to)
    by_sign false e = rw serves.start (entry_forward low p q slab.low (pos whole) s n (serves.forward e).0 some serves.low from)

  pub no_later : (pos whole *ℤ s) ≤ℤ (exit_of slab low high *ℤ n)
  no_later = by_sign slab.backward refl where
    by_sign : (t : Bool) → slab.backward ≡ t → (pos whole *ℤ s) ≤ℤ ((((if t then low else high) -ℤ slab.wide) *ℤ slab.high) *ℤ n)
    by_sign true e = exit_back low p q slab.wide slab.high (pos whole) s n (serves.backward e).1 some part (serves.backward e).2 serves.high from
    by_sign false e = exit_forward high p q slab.wide slab.high (pos whole) s n (serves.forward e).1 some part (serves.forward e).2 serves.high to

-- ---- the window
pick : (P : ℤ → Type 0) (t : Bool) (x y : ℤ) → P x → P y → P (cond t x y)
pick P true x y h g = h
pick P false x y h g = g

-- the place x is at most, or less than one below, the part w / n
abbrev pub IsBy : ℤ → ℤ → ℤ → Type 0
IsBy w n x = (x *ℤ n) ≤ℤ w

abbrev pub IsPast : ℤ → ℤ → ℤ → Type 0
IsPast w n x = w <ℤ ((x +ℤ pos 1) *ℤ n)

pub greater_by : (w n x y : ℤ) → IsBy w n x → IsBy w n y → IsBy w n (int_max x y)
greater_by w n x y h g = pick (IsBy w n) (int_lt y x) x y h g

pub lesser_past : (w n x y : ℤ) → IsPast w n x → IsPast w n y → IsPast w n (int_min x y)
lesser_past w n x y h g = pick (IsPast w n) (int_lt y x) y x g h

one_more : (x n : ℤ) → (x +ℤ pos 1) *ℤ n ≡ x *ℤ n +ℤ n
unfolding same
one_more x n = ring (x ∷ n ∷ []) ((var 0 ⊕ con (pos 1)) ⊗ var 1) (var 0 ⊗ var 1 ⊕ var 1) refl

pub past : (w n x : ℤ) → pos 0 <ℤ n → w ≤ℤ (x *ℤ n) → IsPast w n x
past w n x some h = omega (arith, ints, one_more x n)

-- a later place has no smaller part
rises : (x y n : ℤ) → pos 0 ≤ℤ n → x ≤ℤ y → (x *ℤ n) ≤ℤ (y *ℤ n)
unfolding same
rises x y n some h =
    ring_le (x ∷ y ∷ n ∷ []) (var 0 ⊗ var 2) (var 1 ⊗ var 2) (var 2 ⊗ (var 1 ⊖ var 0)) refl (times_gap n x y some h)

-- places with a part between them are in order
pub in_order : (w n near far : ℤ) → pos 0 ≤ℤ n → IsBy w n near → IsPast w n far → near ≤ℤ far
in_order w n near far some h g =
    by_lt_z far near
    (λ (less : far <ℤ near). let k = rises (far +ℤ pos 1) near n some (omega (arith, ints)) in absurd (omega (arith, ints)))
    (λ (most : near ≤ℤ far). most)

-- the last place of the depth `most`: a smaller depth is no later
power_of : (shift : ℕ) → 2 ^ (30 + shift) ≡ 2 ^ 30 * 2 ^ shift
power_of shift = pow-add 2 30 shift

deep : (most shift s r : ℕ) → 0 < s + r → 2 ^ 30 * s / (s + r) ≤ most → 2 ^ (30 + shift) * s < (most + 1) * 2 ^ shift * (s + r)
deep most shift s r some h =
    let one : 2 ^ 30 * s < (s + r) * (2 ^ 30 * s / (s + r) + 1) = lt-mul-div-succ (2 ^ 30 * s) some in
    let two : (s + r) * (2 ^ 30 * s / (s + r) + 1) ≤ (s + r) * (most + 1) = mul-le-mul_left (s + r) (omega arith) in
    let three : 2 ^ shift * (2 ^ 30 * s) < 2 ^ shift * ((s + r) * (most + 1)) = mul-lt-mul_of_pos_left (omega arith) (pow_pos shift) in
    rw (power_of shift) (omega arith)

pub last_past : (most shift s r : ℕ) (last : ℤ) → last +ℤ pos 1 ≡ pos ((most + 1) * 2 ^ shift) → 0 < s + r → 2 ^ 30 * s / (s + r) ≤ most → IsPast (pos (2 ^ (30 + shift)) *ℤ pos s) (pos (s + r)) last
last_past most shift s r last e some h = rw e (omega (arith, ints, deep most shift s r some h))
