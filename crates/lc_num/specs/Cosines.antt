-- Vectors of a given length, and cosines in 1/65536.
use Rattle.std.specs.Prelude.{ℕ, ◌==◌, ◌*◌, ◌^◌, min, ◌⊎◌, if◌then◌else◌, ℤ, pos, ◌*ℤ◌, unsigned_abs}
use Rattle.std.specs.Int.RustNames.{int_div, int_lt}
use Rattle.lc_algebra.specs.Roots.{isqrt, ratio_root}
use Rattle.lc_num.specs.Vectors.{Within, zero_vector, dot, square}
use Rattle.lc_num.specs.declared.vectors.Vec3.{Vec3}

-- `l * v_a / isqrt(v.v)` toward zero in each component, or the zero vector for the zero vector
unfoldable pub scaled : Vec3 → ℕ → Vec3
scaled v l =
    if square v == 0
    then zero_vector
    else record {
      x = int_div (pos l *ℤ v.x) (pos (isqrt (square v)));
      y = int_div (pos l *ℤ v.y) (pos (isqrt (square v)));
      z = int_div (pos l *ℤ v.z) (pos (isqrt (square v)));
    }

-- one of the two is at most 16384 in each component, and the other at most 100,100,000
abbrev pub CanMeasure : Vec3 → Vec3 → Type 0
CanMeasure n b = (Within 16384 n × Within 100_100_000 b) ⊎ (Within 100_100_000 n × Within 16384 b)

-- 65536 times the cosine between the two: where n.b is positive, the greatest k with
-- `k^2 * (n.n) * (b.b) <= 2^32 * (n.b)^2`, and else 0
unfoldable pub cos16 : Vec3 → Vec3 → ℕ
cos16 n b =
    if int_lt (pos 0) (dot n b)
    then ratio_root (square n * square b) (2 ^ 32 * (unsigned_abs (dot n b) * unsigned_abs (dot n b)))
    else 0

-- the cosine in 1/65536 that a dot product and a product of two squared lengths give, rounded down: 0 where the dot
-- product is not positive, else 65536 where the product of the squared lengths is 0, and never above 65536
unfoldable pub cosine_at_most : ℤ → ℕ → ℕ
cosine_at_most along squares =
    if int_lt (pos 0) along
    then (if squares == 0 then 65536 else min 65536
    (ratio_root squares (2 ^ 32 * (unsigned_abs along * unsigned_abs along))))
    else 0
