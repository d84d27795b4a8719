-- Numbers of binary digits.
use Rattle.std.specs.Prelude.{ℕ, zero, suc, ◌^◌, nat_lt, Bool, if◌then◌else◌}

-- the least number from 0 to `most` that passes the test, or `most` where none does
unfoldable pub least_up_to : (ℕ → Bool) → ℕ → ℕ
least_up_to test zero = zero
least_up_to test (suc most) = if test (least_up_to test most) then least_up_to test most else suc most

-- how many binary digits m has: the least k with m < 2 ^ k, so none for 0
unfoldable pub bits : ℕ → ℕ
bits m = least_up_to (λ k. nat_lt m (2 ^ k)) m
