-- The scale on which a map shows how great a bound is beside its estimate.
use Rattle.std.specs.Prelude.{ℕ, ◌+◌, ◌*◌, ◌/◌, ◌%◌, ◌^◌, Bool, ◌&&◌, ◌||◌, nat_le, nat_lt}
use Rattle.lc_rated.specs.declared.answer.Answer.{Answer}

-- the share of the estimate from which a bound is shown by a byte, in units of 1/32000: it doubles every 16 bytes, and
-- rises in equal steps between
unfoldable pub share_of : ℕ → ℕ
share_of byte = 2 ^ (byte / 16) * (16 + byte % 16)

-- the bound is not 0, and at least the byte's share of the estimate
abbrev pub reaches : ℕ → ℕ → ℕ → Bool
reaches est bound byte = nat_lt 0 bound && nat_le (share_of byte * est) (32_000 * bound)

-- the bound of a sample reaches a byte in some channel
abbrev pub sample_reaches : ℕ → Answer → Bool
sample_reaches byte a =
    reaches a.est.r a.bound.r byte || (reaches a.est.g a.bound.g byte || reaches a.est.b a.bound.b byte)

-- the bound is above the permille of the estimate
abbrev pub is_above : ℕ → ℕ → ℕ → Bool
is_above permille est bound = nat_lt (permille * est) (1000 * bound)

-- the bound of a sample is above the permille of its estimate in some channel
abbrev pub misses : ℕ → Answer → Bool
misses permille a =
    is_above permille a.est.r a.bound.r || (is_above permille a.est.g a.bound.g || is_above permille a.est.b a.bound.b)
