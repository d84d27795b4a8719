-- Shares rise with their bytes, and how a bound is compared with them.
use Rattle.std.proofs.Common.{◌≡◌, ◌⊎◌, ℕ, zero, suc, ◌+◌, ◌-◌, ◌*◌, ◌/◌, ◌%◌, ◌^◌, ◌<◌, ◌≤◌, min, nat_le, false, refl, sym, ◌∙◌, ap, inl, inr, arith, ⊎_elim}
use Rattle.std.proofs.lemmas.Bool.{cases_eq, cases_lt}
use Rattle.std.proofs.lemmas.Bool.Decides.{nat_tests}
use Rattle.std.proofs.lemmas.Nat.{le-div, shl_whole}
use Rattle.std.proofs.Math.Nat.{div-eq_of_lt-le, div-mul-le_self, le-div_iff_mul-le, mul-le-mul_left, mul-le-mul_right}
use Rattle.lc_algebra.specs.Greatest.{greatest_up_to}
use Rattle.lc_map.specs.Scale.{reaches, share_of}
use Rattle.lc_map.proofs.Greatest.{greatest-is, greatest-none, greatest-same}

-- ---- shares rise

share-next : (b : ℕ) → share_of b ≤ share_of (b + 1)
unfolding share_of
share-next b =
    ⊎_elim
    (λ (last : b % 16 ≡ 15).
    let up : (b + 1) / 16 ≡ suc (b / 16) = omega arith in
    let first : (b + 1) % 16 ≡ 0 = omega arith in
    rw (up, first, last) (omega arith))
    (λ (inside : b % 16 ≡ 15 → ⊥).
    let same : (b + 1) / 16 ≡ b / 16 = omega arith in
    let more : (b + 1) % 16 ≡ b % 16 + 1 = omega arith in
    rw (same, more) (mul-le-mul_left (2 ^ (b / 16)) (omega arith)))
    (cases_eq (b % 16) 15)

share-later : (b k : ℕ) → share_of b ≤ share_of (b + k)
share-later b zero = let e : b + 0 ≡ b = omega arith in rw e (omega arith)
share-later b (suc k) =
    let e : b + suc k ≡ (b + k) + 1 = omega arith in
    let so_far : share_of b ≤ share_of (b + k) = share-later b k in
    let one : share_of (b + k) ≤ share_of ((b + k) + 1) = share-next (b + k) in
    rw e (omega arith)

pub share-le : (a b : ℕ) → a ≤ b → share_of a ≤ share_of b
share-le a b below = let e : b ≡ a + (b - a) = omega arith in rw e (share-later a (b - a))

pub share-most : (b : ℕ) → b ≤ 255 → share_of b ≤ 1_015_808
unfolding share_of
share-most b below = share-le b 255 below

-- the share as the code has it
pub share-shifted : (b : ℕ) → b ≤ 255 → (16 + b % 16) * 2 ^ (b / 16) % 4_294_967_296 ≡ share_of b
unfolding share_of
share-shifted b below =
    shl_whole (16 + b % 16) 5 (b / 16) 32 (omega arith) (omega arith) ∙ grind arith

-- ---- the ratio of a bound

-- a number divided in two steps
pub ratio-in_parts : (n d : ℕ) → 0 < d → 256 * (n / d) + 256 * (n % d) / d ≡ 256 * n / d
ratio-in_parts n d some = sym (div-eq_of_lt-le d low high) where
  q : ℕ
  q = n / d

  r : ℕ
  r = n % d

  t : ℕ
  t = 256 * r / d

  whole : n ≡ q * d + r
  whole = omega arith

  parts : (256 * q + t) * d ≡ 256 * (q * d) + t * d
  parts = grind arith

  t_low : t * d ≤ 256 * r
  t_low = div-mul-le_self (256 * r) d

  t_high : 256 * r < t * d + d
  t_high = omega arith

  low : (256 * q + t) * d ≤ 256 * n
  low = omega (arith, whole, parts, t_low)

  high : 256 * n < (256 * q + t + 1) * d
  high = let more : (256 * q + t + 1) * d ≡ (256 * q + t) * d + d = grind arith in omega (arith, whole, parts, t_high, more)

-- a bound that is at least 32 times the estimate
pub ratio-high : (est bound : ℕ) → 0 < est → est ≤ bound / 32 → 1_024_000 ≡ min 1_024_000 (32_000 * bound / est)
ratio-high est bound some high =
    let times : 1_024_000 * est ≤ 32_000 * bound = omega arith in
    let least : 1_024_000 ≤ 32_000 * bound / est = le-div 1_024_000 (32_000 * bound) est some times in
    omega arith

-- and one that is below
pub ratio-below : (est bound : ℕ) → 0 < est → bound / 32 < est → 32_000 * bound / est < 1_024_000
ratio-below est bound some low =
    let times : 32_000 * bound < 1_024_000 * est = omega arith in
    let back : 32_000 * bound / est * est ≤ 32_000 * bound = div-mul-le_self (32_000 * bound) est in
    ⊎_elim
    (λ (yes : 32_000 * bound / est < 1_024_000). yes)
    (λ (no : 1_024_000 ≤ 32_000 * bound / est).
    let up : 1_024_000 * est ≤ 32_000 * bound / est * est = mul-le-mul_right est no in absurd (omega arith))
    (cases_lt (32_000 * bound / est) 1_024_000)

pub ratio-low : (est bound : ℕ) → 0 < est → bound / 32 < est → 256 * (125 * bound / est) + 256 * (125 * bound % est) / est ≡ min 1_024_000 (32_000 * bound / est)
ratio-low est bound some low =
    let same : 256 * (125 * bound) ≡ 32_000 * bound = omega arith in
    let below : 32_000 * bound / est < 1_024_000 = ratio-below est bound some low in
    let parts : 256 * (125 * bound / est) + 256 * (125 * bound % est) / est ≡ 32_000 * bound / est = ratio-in_parts (125 * bound) est some ∙ ap (λ n. n / est) same in
    omega (arith, below, parts)

-- ---- the greatest byte

-- between a byte whose share is at most so much and the next
pub byte-between : (ratio low high : ℕ) → low < high → high ≤ low + 1 → high ≤ 256 → (low ≡ 0) ⊎ (share_of low ≤ ratio) → (high ≡ 256) ⊎ (ratio < share_of high) → low ≡ greatest_up_to (λ byte. nat_le (share_of byte) ratio) 255
byte-between ratio low high order next most below above = sym (found below) where
  over : (j : ℕ) → low < j → j ≤ 255 → nat_le (share_of j) ratio ≡ false
  over j more j_most = at above where
    at : (high ≡ 256) ⊎ (ratio < share_of high) → nat_le (share_of j) ratio ≡ false
    at (inl last) = absurd (omega arith)
    at (inr less) = let rise : share_of high ≤ share_of j = share-le high j (omega arith) in grind (arith, nat_tests)

  found : (low ≡ 0) ⊎ (share_of low ≤ ratio) → greatest_up_to (λ byte. nat_le (share_of byte) ratio) 255 ≡ low
  found (inl none) = greatest-none (λ byte. nat_le (share_of byte) ratio) 255 (λ j some j_most. over j (omega arith) j_most) ∙ sym none
  found (inr within) = greatest-is (λ byte. nat_le (share_of byte) ratio) 255 low (omega arith) (grind (arith, nat_tests)) over

-- a bound of nothing reaches no byte
pub reached-none : (est : ℕ) → greatest_up_to (reaches est 0) 255 ≡ 0
reached-none est = greatest-none (reaches est 0) 255 (λ j some most. refl)

-- a bound of a black estimate reaches each byte
pub reached-all : (bound : ℕ) → 0 < bound → greatest_up_to (reaches 0 bound) 255 ≡ 255
reached-all bound some = greatest-is (reaches 0 bound) 255 255 (omega arith) (grind (arith, nat_tests)) (λ j more most. absurd (omega arith))

-- a bound reaches the bytes whose share is at most its ratio
pub reached-within : (est bound : ℕ) → 0 < est → 0 < bound → greatest_up_to (λ byte. nat_le (share_of byte) (min 1_024_000 (32_000 * bound / est))) 255 ≡ greatest_up_to (reaches est bound) 255
reached-within est bound some_est some_bound = greatest-same (λ byte. nat_le (share_of byte) (min 1_024_000 (32_000 * bound / est))) (reaches est bound) 255 same where
  same : (j : ℕ) → j ≤ 255 → nat_le (share_of j) (min 1_024_000 (32_000 * bound / est)) ≡ reaches est bound j
  same j below =
      let most : share_of j ≤ 1_015_808 = share-most j below in
      let both = le-div_iff_mul-le {k = est} {x = share_of j} {y = 32_000 * bound} some_est in
      ⊎_elim
      (λ (less : 32_000 * bound < share_of j * est).
      let above : 32_000 * bound / est < share_of j =
      ⊎_elim (λ (l : 32_000 * bound / est < share_of j). l) (λ (m : share_of j ≤ 32_000 * bound / est). absurd (let p = both.0 m in omega (arith, p))) (cases_lt (32_000 * bound / est) (share_of j)) in
      grind (arith, nat_tests))
      (λ (more : share_of j * est ≤ 32_000 * bound). let within : share_of j ≤ 32_000 * bound / est = both.1 more in grind (arith, nat_tests))
      (cases_lt (32_000 * bound) (share_of j * est))

-- ---- the scale

pub share-doubles : (byte : ℕ) → share_of (byte + 16) ≡ 2 * share_of byte
unfolding share_of
share-doubles byte =
    let up : (byte + 16) / 16 ≡ suc (byte / 16) = omega arith in
    let same : (byte + 16) % 16 ≡ byte % 16 = omega arith in
    let power : 2 ^ suc (byte / 16) ≡ 2 * 2 ^ (byte / 16) = omega arith in
    rw (up, same, power) (twice (2 ^ (byte / 16)) (16 + byte % 16)) where
      twice : (p n : ℕ) → 2 * p * n ≡ 2 * (p * n)
      twice p n = grind arith
