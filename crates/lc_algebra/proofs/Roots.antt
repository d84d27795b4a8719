-- Laws of square roots and of roots of a ratio.
use Rattle.std.proofs.Common.{◌≡◌, ℕ, ◌+◌, ◌*◌, ◌/◌, ◌<◌, ◌≤◌, nat_le, arith, ⊎_elim, sym, le_antisymm, le_trans}
use Rattle.std.proofs.lemmas.Nat.{mul-le}
use Rattle.std.proofs.lemmas.Bool.{cases_lt, leb-true, le-leb}
use Rattle.std.proofs.Math.Nat.{le-mul_of_pos_right, mul-le-mul_right, mul-le-mul_left, le-div_iff_mul-le, div-lt_iff_lt-mul}
use Rattle.lc_algebra.specs.Roots.{isqrt, ratio_root}
use Rattle.lc_algebra.proofs.Greatest.{greatest_up_to-passes, greatest_up_to-greatest}

-- a number is at most its square times a positive number
at_most_its_square : (c k : ℕ) → 0 < c → k ≤ k * k * c
at_most_its_square c k positive =
    ⊎_elim
    (λ (some : 0 < k). let own : k ≤ k * k = le-mul_of_pos_right k some in let times : k * k ≤ k * k * c = le-mul_of_pos_right (k * k) positive in omega arith)
    (λ (none : k ≤ 0). omega arith)
    (cases_lt 0 k)

-- ---- square roots

pub isqrt-low : (n : ℕ) → isqrt n * isqrt n ≤ n
unfolding isqrt
isqrt-low n = leb-true _ _ (greatest_up_to-passes (λ k. nat_le (k * k) n) n (le-leb (0 * 0) n (omega arith)))

pub isqrt-greatest : (n k : ℕ) → k * k ≤ n → k ≤ isqrt n
unfolding isqrt
isqrt-greatest n k low = greatest_up_to-greatest (λ k. nat_le (k * k) n) n k (let own = at_most_its_square 1 k (omega arith) in omega arith) (le-leb (k * k) n low)

pub isqrt-high : (n : ℕ) → n < (isqrt n + 1) * (isqrt n + 1)
isqrt-high n =
    ⊎_elim
    (λ (less : n < (isqrt n + 1) * (isqrt n + 1)). less)
    (λ (more : (isqrt n + 1) * (isqrt n + 1) ≤ n). absurd (omega (arith, isqrt-greatest n (isqrt n + 1) more)))
    (cases_lt n ((isqrt n + 1) * (isqrt n + 1)))

pub isqrt-at_most : (n m : ℕ) → n < (m + 1) * (m + 1) → isqrt n ≤ m
isqrt-at_most n m high =
    ⊎_elim
    (λ (more : m < isqrt n). absurd (omega (arith, isqrt-low n, mul-le (m + 1) (m + 1) (isqrt n) (isqrt n) (omega arith) (omega arith))))
    (λ (fine : isqrt n ≤ m). fine)
    (cases_lt m (isqrt n))

pub isqrt-only : (n k : ℕ) → k * k ≤ n → n < (k + 1) * (k + 1) → isqrt n ≡ k
isqrt-only n k low high = le_antisymm (isqrt-at_most n k high) (isqrt-greatest n k low)

pub isqrt-rises : (m n : ℕ) → m ≤ n → isqrt m ≤ isqrt n
isqrt-rises m n h = isqrt-greatest n (isqrt m) (le_trans (isqrt-low m) h)

-- ---- roots of a ratio

pub ratio_root-low : (c n : ℕ) → ratio_root c n * ratio_root c n * c ≤ n
unfolding ratio_root
ratio_root-low c n = leb-true _ _ (greatest_up_to-passes (λ k. nat_le (k * k * c) n) n (le-leb (0 * 0 * c) n (omega arith)))

pub ratio_root-greatest : (c n k : ℕ) → 0 < c → k * k * c ≤ n → k ≤ ratio_root c n
unfolding ratio_root
ratio_root-greatest c n k positive low = greatest_up_to-greatest (λ k. nat_le (k * k * c) n) n k (le_trans (at_most_its_square c k positive) low) (le-leb (k * k * c) n low)

pub ratio_root-high : (c n : ℕ) → 0 < c → n < (ratio_root c n + 1) * (ratio_root c n + 1) * c
ratio_root-high c n positive =
    ⊎_elim
    (λ (less : n < (ratio_root c n + 1) * (ratio_root c n + 1) * c). less)
    (λ (more : (ratio_root c n + 1) * (ratio_root c n + 1) * c ≤ n). absurd (omega (arith, ratio_root-greatest c n (ratio_root c n + 1) positive more)))
    (cases_lt n ((ratio_root c n + 1) * (ratio_root c n + 1) * c))

pub ratio_root-at_most : (c n m : ℕ) → n < (m + 1) * (m + 1) * c → ratio_root c n ≤ m
ratio_root-at_most c n m high =
    ⊎_elim
    (λ (more : m < ratio_root c n). absurd (omega (arith, ratio_root-low c n, mul-le-mul_right c (mul-le (m + 1) (m + 1) (ratio_root c n) (ratio_root c n) (omega arith) (omega arith)))))
    (λ (fine : ratio_root c n ≤ m). fine)
    (cases_lt m (ratio_root c n))

pub ratio_root-only : (c n k : ℕ) → 0 < c → k * k * c ≤ n → n < (k + 1) * (k + 1) * c → ratio_root c n ≡ k
ratio_root-only c n k positive low high = le_antisymm (ratio_root-at_most c n k high) (ratio_root-greatest c n k positive low)

-- it rises with the number and falls with the divisor
pub ratio_root-rises : (c d m n : ℕ) → 0 < d → d ≤ c → m ≤ n → ratio_root c m ≤ ratio_root d n
ratio_root-rises c d m n positive less more =
    ratio_root-greatest d n (ratio_root c m) positive
    (le_trans (mul-le-mul_left (ratio_root c m * ratio_root c m) less) (le_trans (ratio_root-low c m) more))

pub isqrt-of_quotient : (n c : ℕ) → 0 < c → isqrt (n / c) ≡ ratio_root c n
isqrt-of_quotient n c positive =
    sym (ratio_root-only c n (isqrt (n / c)) positive ((le-div_iff_mul-le positive).0 (isqrt-low (n / c))) ((div-lt_iff_lt-mul positive).0 (isqrt-high (n / c))))
