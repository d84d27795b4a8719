-- The greatest number that passes a test.
use Rattle.std.specs.Prelude.{ℕ, zero, suc, Bool, if◌then◌else◌}

-- the greatest number from 0 to `most` that passes the test, or 0 where none does
unfoldable pub greatest_up_to : (ℕ → Bool) → ℕ → ℕ
greatest_up_to test zero = zero
greatest_up_to test (suc most) = if test (suc most) then suc most else greatest_up_to test most
