-- A step of Newton's rule for the square root stays above the root.
use Rattle.std.proofs.Common.{◌≡◌, ℕ, ◌+◌, ◌-◌, ◌*◌, ◌/◌, ◌%◌, ◌^◌, ◌<◌, ◌≤◌, arith, subst, ⊎_elim, ap, ◌∙◌}
use Rattle.std.proofs.lemmas.Nat.{mul-le, pow-add, pow_pos, shr_below, shl_whole}
use Rattle.std.proofs.lemmas.Bool.{cases_lt}
use Rattle.std.proofs.Math.Nat.{lt-mul-div-succ, mul-div-le, pow-le-pow_right, div-lt_iff_lt-mul, mul-le-mul_left}
use Rattle.lc_algebra.specs.Roots.{isqrt}
use Rattle.lc_algebra.proofs.Roots.{isqrt-low, isqrt-high}

-- the mean of two numbers is at least the root of their product
mean_apart : (x d : ℕ) → 4 * (x * (x + d)) ≤ (x + (x + d)) * (x + (x + d))
mean_apart x d = omega arith

pub mean : (x t : ℕ) → 4 * (x * t) ≤ (x + t) * (x + t)
mean x t =
    ⊎_elim
    (λ (less : x < t). let e : x + (t - x) ≡ t = omega arith in subst (λ (s : ℕ). 4 * (x * s) ≤ (x + s) * (x + s)) e (mean_apart x (t - x)))
    (λ (more : t ≤ x). let e : t + (x - t) ≡ x = omega arith in subst (λ (s : ℕ). 4 * (s * t) ≤ (s + t) * (s + t)) e (omega (arith, mean_apart t (x - t))))
    (cases_lt x t)

pub newton_above : (n x : ℕ) → 0 < x → n < ((x + n / x) / 2 + 1) * ((x + n / x) / 2 + 1)
newton_above n x positive =
    let y = (x + n / x) / 2 in
    let t = n / x + 1 in
    let below : n < x * (n / x + 1) = lt-mul-div-succ n positive in
    let product : 4 * (x * (n / x + 1)) ≤ (x + (n / x + 1)) * (x + (n / x + 1)) = mean x (n / x + 1) in
    let whole : (x + (n / x + 1)) * (x + (n / x + 1)) ≤ (2 * ((x + n / x) / 2 + 1)) * (2 * ((x + n / x) / 2 + 1)) = mul-le _ _ _ _ (omega arith) (omega arith) in
    omega arith

pub newton_positive : (n x : ℕ) → 0 < n → 0 < x → 0 < (x + n / x) / 2
newton_positive n x some positive =
    ⊎_elim
    (λ (more : 0 < (x + n / x) / 2). more)
    (λ (none : (x + n / x) / 2 ≤ 0). let e : (x + n / x) / 2 ≡ 0 = omega arith in absurd (let above = rw e at (newton_above n x positive) in omega arith))
    (cases_lt 0 ((x + n / x) / 2))

-- Newton's first step, from x and the quotient of n by x: the sum fits, and its half is above the root and below a bound
pub record FirstStep (n x quotient sum most : ℕ) : Type 0 where
  pub fits : x + quotient < sum
  pub positive : 0 < (x + quotient) / 2
  pub above : n < ((x + quotient) / 2 + 1) * ((x + quotient) / 2 + 1)
  pub bound : (x + quotient) / 2 < most

pub leading_fits : (n k : ℕ) → n < 2 * 2 ^ k → n / 2 ^ (2 * ((k - 62) / 2)) < 2 ^ 64
leading_fits n k below =
    shr_below n 64 (2 * ((k - 62) / 2)) (let p = pow-add 2 k 1 in let q : 2 ^ (k + 1) ≤ 2 ^ (64 + 2 * ((k - 62) / 2)) = pow-le-pow_right {n = 2} (omega arith) (omega arith) in omega arith)

root_of_word : (s : ℕ) → s * s < 2 ^ 64 → s < 2 ^ 32
root_of_word s small =
    ⊎_elim
    (λ (yes : s < 2 ^ 32). yes)
    (λ (no : 2 ^ 32 ≤ s). absurd (omega (arith, mul-le (2 ^ 32) (2 ^ 32) s s no no)))
    (cases_lt s (2 ^ 32))

-- one more than the root of the leading digits is above the root, so the quotient is below the guess
guess_above : (n h s : ℕ) → n / 2 ^ (2 * h) < (s + 1) * (s + 1) → n < ((s + 1) * 2 ^ h) * ((s + 1) * 2 ^ h)
guess_above n h s high =
    let e : 2 ^ (2 * h) ≡ 2 ^ h * 2 ^ h = ap (λ m. 2 ^ m) (omega arith) ∙ pow-add 2 h h in
    let whole : n < 2 ^ (2 * h) * (n / 2 ^ (2 * h) + 1) = lt-mul-div-succ n (pow_pos (2 * h)) in
    let grows : 2 ^ (2 * h) * (n / 2 ^ (2 * h) + 1) ≤ 2 ^ (2 * h) * ((s + 1) * (s + 1)) = mul-le-mul_left (2 ^ (2 * h)) (omega arith) in
    let both : n < 2 ^ (2 * h) * ((s + 1) * (s + 1)) = omega arith in
    let h2 = rw e at both in
    omega arith

guess_step : (n h s : ℕ) → 0 < n → h ≤ 32 → s < 2 ^ 32 → n / 2 ^ (2 * h) < (s + 1) * (s + 1) → FirstStep n ((s + 1) * 2 ^ h) (n / ((s + 1) * 2 ^ h)) (2 ^ 128) (2 ^ 64)
guess_step n h s some small half high =
    let power : 2 ^ h ≤ 2 ^ 32 = pow-le-pow_right {n = 2} (omega arith) {i = h} {j = 32} small in
    let positive : 0 < (s + 1) * 2 ^ h = mul-le 1 1 (s + 1) (2 ^ h) (omega arith) (pow_pos h) in
    let top : (s + 1) * 2 ^ h ≤ 2 ^ 32 * 2 ^ 32 = mul-le (s + 1) (2 ^ h) (2 ^ 32) (2 ^ 32) (omega arith) power in
    let quotient : n / ((s + 1) * 2 ^ h) < (s + 1) * 2 ^ h = (div-lt_iff_lt-mul positive).1 (guess_above n h s high) in
    record {
      fits = omega arith;
      positive = newton_positive n _ some positive;
      above = newton_above n _ positive;
      bound = omega arith;
    }

-- a number of 128 bits, and one more than the root of its leading digits
pub start_wide : (n k s : ℕ) → 0 < n → k < 128 → n < 2 * 2 ^ k → s ≡ isqrt (n / 2 ^ (2 * ((k - 62) / 2))) → FirstStep n ((s + 1) * 2 ^ ((k - 62) / 2) % 2 ^ 128) (n / ((s + 1) * 2 ^ ((k - 62) / 2) % 2 ^ 128)) (2 ^ 128) (2 ^ 64)
start_wide n k s some small below root =
    let leading : n / 2 ^ (2 * ((k - 62) / 2)) < 2 ^ 64 = leading_fits n k below in
    let low = rw (← root) at (isqrt-low (n / 2 ^ (2 * ((k - 62) / 2)))) in
    let high = rw (← root) at (isqrt-high (n / 2 ^ (2 * ((k - 62) / 2)))) in
    let half : s < 2 ^ 32 = root_of_word s (omega arith) in
    let e : (s + 1) * 2 ^ ((k - 62) / 2) % 2 ^ 128 ≡ (s + 1) * 2 ^ ((k - 62) / 2) = shl_whole (s + 1) 33 ((k - 62) / 2) 128 (omega arith) (omega arith) in
    rw e (guess_step n ((k - 62) / 2) s some (omega arith) half high)

-- above the root, a step goes down
pub newton_below : (n x most : ℕ) → x < most → n < x * x → (x + n / x) / 2 < most
newton_below n x most small more =
    ⊎_elim
    (λ (down : n / x < x). omega arith)
    (λ (up : x ≤ n / x). absurd (let h = mul-le-mul_left x up in omega (arith, mul-div-le n x)))
    (cases_lt (n / x) x)
