-- What is known of the first rows of a hierarchy while it is walked. Clauses of private functions alone speak of it.
use Rattle.std.specs.Prelude.{◌≡◌, ℕ, ◌-◌, ◌<◌, ◌≢◌, nat_lt, if◌then◌else◌, true, false, List, Option, None, Some, slice_get, IfSome, MatchOption}
use Rattle.lc_num.specs.declared.vectors.Vec3.{Vec3}
use Rattle.lc_geom.specs.Crossing.{crosses}
use Rattle.lc_geom.specs.Hits.{depth, is_before}
use Rattle.lc_geom.specs.declared.hit.Hit.{Hit}
use Rattle.lc_hier.specs.declared.node.Row.{Row}

-- no row below the place `next` blocks the segment, but perhaps the known one
abbrev pub AreClear : Vec3 → Vec3 → List Row → ℕ → ℕ → Type 0
AreClear p q rows known next =
    (j : ℕ) (row : Row) → j < next → j ≢ known → slice_get rows j ≡ Some row → crosses p q row.triangle ≡ false

-- the row at this place blocks the segment
abbrev pub IsBlocker : Vec3 → Vec3 → List Row → ℕ → Type 0
IsBlocker p q rows j = (row : Row) × (slice_get rows j ≡ Some row) × (crosses p q row.triangle ≡ true)

-- how many rows lie below the place `next`, without the known one
abbrev pub others : ℕ → ℕ → ℕ
others known next = if nat_lt known next then next - 1 else next

-- the hit is one on a row
abbrev pub IsHitOn : Vec3 → Vec3 → List Row → Hit → Type 0
IsHitOn e d rows hit =
    (j : ℕ) × (row : Row) × (slice_get rows j ≡ Some row) × (row.number ≡ hit.number)
    × (depth e d row.triangle ≡ Some hit.depth)

-- no hit on a row below the place `next` comes before this one; where there is none, no such row is hit
abbrev pub ComesFirst : Vec3 → Vec3 → List Row → ℕ → Option Hit → Type 0
ComesFirst e d rows next best =
    (j : ℕ) (row : Row) → j < next → slice_get rows j ≡ Some row
    → MatchOption best (depth e d row.triangle ≡ None)
    (λ hit. (n : ℕ) → depth e d row.triangle ≡ Some n
    → is_before hit (record { depth = n; number = row.number }) ≡ true)

-- the first hit on the rows below a place
pub record IsFirstAmong (e d : Vec3) (rows : List Row) (next : ℕ) (best : Option Hit) : Type 0 where
  pub hit : IfSome best (IsHitOn e d rows)
  pub first : ComesFirst e d rows next best
