-- The number of binary digits.
use Rattle.std.proofs.Common.{◌≡◌, ℕ, zero, suc, ◌+◌, ◌-◌, ◌*◌, ◌<◌, ◌≤◌, ◌^◌, inl, inr, nat_lt, Bool, true, false, cond, refl, arith}
use Rattle.std.proofs.Math.Nat.{pow-succ'}
use Rattle.std.proofs.lemmas.Bool.{cases_eq}
use Rattle.std.proofs.lemmas.Bool.Decides.{nat_tests}
use Rattle.lc_heap.specs.Bits.{least_up_to, bits}

least_within : (test : ℕ → Bool) (most : ℕ) → least_up_to test most ≤ most
unfolding least_up_to
least_within test zero = omega arith
least_within test (suc most) =
    elim (test (least_up_to test most)) as (λ v. cond v (least_up_to test most) (suc most) ≤ suc most) [
      | true ↦ omega (arith, least_within test most)
      | false ↦ omega arith
    ]

false_true : {P : Type 0} (b : Bool) → b ≡ false → b ≡ true → P
false_true b p q = cc

-- the test passes at l, which is at most k
record Passes (test : ℕ → Bool) (k l : ℕ) : Type 0 where
  passes : test l ≡ true
  least : l ≤ k

least_found : (test : ℕ → Bool) (most k : ℕ) → k ≤ most → test k ≡ true → Passes test k (least_up_to test most)
unfolding least_up_to
least_found test zero zero h t = record { passes = t; least = omega arith }
least_found test zero (suc k) h t = absurd (omega arith)
least_found test (suc most) k h t =
    let l = least_up_to test most in
    let within : l ≤ most = least_within test most in
    elim (test l) as (λ v. test l ≡ v → Passes test k (cond v l (suc most))) [
      | true ↦ (λ p. elim (cases_eq k (suc most)) [
        | inl e ↦ record { passes = p; least = omega arith }
        | inr u ↦ least_found test most k (omega arith) t
      ])
      | false ↦ (λ p. elim (cases_eq k (suc most)) [
        | inl e ↦ record { passes = rw e at t; least = omega arith }
        | inr u ↦ let found = least_found test most k (omega arith) t in false_true (test l) p found.passes
      ])
    ] refl

below_power : (m : ℕ) → m < 2 ^ m
below_power zero = omega arith
below_power (suc m) = let more = pow-succ' 2 m in omega (arith, below_power m)

is_below : (m k : ℕ) → m < 2 ^ k → nat_lt m (2 ^ k) ≡ true
is_below m k h = grind (arith, nat_tests)

below_is : (m k : ℕ) → nat_lt m (2 ^ k) ≡ true → m < 2 ^ k
below_is m k h = grind (arith, nat_tests)

pub bits_enough : (m : ℕ) → m < 2 ^ bits m
unfolding bits
bits_enough m =
    let found = least_found (λ k. nat_lt m (2 ^ k)) m m (omega arith) (is_below m m (below_power m)) in
    below_is m (least_up_to (λ k. nat_lt m (2 ^ k)) m) found.passes

pub bits_least : (m k : ℕ) → m < 2 ^ k → bits m ≤ k
unfolding bits
bits_least m k h =
    let test : ℕ → Bool = λ j. nat_lt m (2 ^ j) in
    elim (cases_eq (m - k) 0) as (λ _. least_up_to test m ≤ k) [
      | inl e ↦ omega (arith, least_within test m)
      | inr u ↦ let found = least_found test m k (omega arith) (is_below m k h) in found.least
    ]

pub bits_rise : (a b : ℕ) → a ≤ b → bits a ≤ bits b
bits_rise a b h = bits_least a (bits b) (omega (arith, bits_enough b))

half_below : (a b k : ℕ) → 2 * a ≤ b → 0 < b → b < 2 ^ k → bits a + 1 ≤ k
half_below a b zero h p below = absurd (omega arith)
half_below a b (suc k) h p below = let more = pow-succ' 2 k in omega (arith, bits_least a k (omega arith))

pub bits_half : (a b : ℕ) → 2 * a ≤ b → 0 < b → bits a + 1 ≤ bits b
bits_half a b h p = half_below a b (bits b) h p (bits_enough b)
