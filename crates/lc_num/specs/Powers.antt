-- Powers of cosines in 1/65536.
use Rattle.std.specs.Prelude.{ℕ, zero, suc, ◌*◌, ◌/◌, ◌%◌, ◌==◌, if◌then◌else◌}

-- the power of an exponent with one binary digit more: the square, and once more c where that digit is 1, each product
-- rounded down
abbrev pub with_digit : ℕ → ℕ → ℕ → ℕ
with_digit c digit power = if digit == 0 then power * power / 65536 else c * (power * power / 65536) / 65536

-- c to the power of the last `digits` binary digits of e
unfoldable pub power_in : ℕ → ℕ → ℕ → ℕ
power_in zero c e = 65536
power_in (suc digits) c e = with_digit c (e % 2) (power_in digits c (e / 2))

-- c to the power e in 1/65536, by squares: an e has no more than e binary digits
unfoldable pub pow16 : ℕ → ℕ → ℕ
pow16 c e = power_in e c e
