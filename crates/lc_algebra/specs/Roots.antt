-- Roots of whole numbers, rounded down.
use Rattle.std.specs.Prelude.{ℕ, ◌*◌, nat_le}
pub use Rattle.lc_algebra.specs.Greatest.{greatest_up_to}

-- the greatest k with `k * k <= n`
unfoldable pub isqrt : ℕ → ℕ
isqrt n = greatest_up_to (λ k. nat_le (k * k) n) n

-- the greatest k with `k * k * c <= n`, for a positive c
unfoldable pub ratio_root : ℕ → ℕ → ℕ
ratio_root c n = greatest_up_to (λ k. nat_le (k * k * c) n) n
