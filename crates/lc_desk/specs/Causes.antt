-- When a count of the desk has risen.
use Rattle.std.specs.Prelude.{ℕ, ◌+◌, ◌<◌, ◌≤◌, ◌⊎◌, min}

-- the last value of a count, 2^64 - 1, at which it stays
abbrev pub last_count : ℕ
last_count = 18446744073709551615

-- one more, but never above the last value
abbrev pub raised : ℕ → ℕ
raised n = min (n + 1) last_count

-- the count is greater than before, or stands at its last value
abbrev pub Rose : ℕ → ℕ → Type 0
Rose before now = (before < now) ⊎ (last_count ≤ now)
