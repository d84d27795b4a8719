-- What a kind of light means, and what every kind keeps.
use Rattle.std.specs.Prelude.{◌≡◌, ℕ, ◌+◌, ◌*◌, ◌≤◌, ◌^◌, ◌⊎◌, Bool, not, List, if◌then◌else◌}
use Rattle.lc_num.specs.Channels.{black, IsPowerWithin, IsRgbWithin, by_power, power_plus, IsAtMost}
use Rattle.lc_num.specs.Vectors.{Within}
use Rattle.lc_num.specs.declared.vectors.Vec3.{Vec3}
use Rattle.lc_num.specs.declared.channels.Rgb.{Rgb}
use Rattle.lc_num.specs.declared.channels.Power.{Power}
use Rattle.lc_num.specs.declared.rules.Rule.{Rule}
use Rattle.lc_num.specs.declared.rules.Rule.TheVariants as rule
use Rattle.lc_geom.specs.declared.triangle.Tri.{Tri}
use Rattle.lc_geom.specs.Hits.{blocked}
use Rattle.lc_terms.specs.Factor.{factor}
use Rattle.lc_terms.specs.Spot.{IsSpot}
use Rattle.lc_terms.specs.declared.spot.Spot.{Spot}

-- what each call of a kind answers, which lights and clumps are valid, how many lights a clump stands for and which it
-- covers, and under each rule per channel the bound of the factors of the lights that it covers
pub record Meaning (L C : Type 0) : Type 1 where
  pub valid_light : L → Type 0
  pub valid_clump : C → Type 0
  pub count : C → ℕ
  pub covers : C → L → Type 0
  pub reach : Spot → C → Rule → Rgb
  pub place : L → Vec3
  pub power : L → Power
  pub toward : Vec3 → L → Vec3
  pub target : Vec3 → L → Vec3
  pub geometry : Vec3 → L → ℕ
  pub one : L → C
  pub join : C → C → C
  pub total : C → Power
  pub top : Spot → C → Rule → Rgb

-- no triangle blocks the segment from a place to the light's target there
abbrev pub is_seen : {L C : Type 0} → Meaning L C → List Tri → Vec3 → L → Bool
is_seen m ts x light = not (blocked x (m.target x light) ts)

-- the factor of a light at a spot among triangles: that of its direction and its geometric term where the light is
-- seen, and else nothing
abbrev pub factor_of : {L C : Type 0} → Meaning L C → List Tri → Spot → L → Rgb
factor_of m ts spot light =
    if is_seen m ts spot.x light then factor spot (m.toward spot.x light) (m.geometry spot.x light) else black

-- what every kind keeps
pub record Laws {L C : Type 0} (m : Meaning L C) : Type 0 where
  pub place_within : (l : L) → m.valid_light l → Within 50_000_000 (m.place l)
  pub power_within : (l : L) → m.valid_light l → IsPowerWithin (10 ^ 8) (m.power l)
  pub toward_within : (x : Vec3) (l : L) → Within 50_100_000 x → m.valid_light l → Within 100_100_000 (m.toward x l)
  pub target_within : (x : Vec3) (l : L) → Within 50_100_000 x → m.valid_light l → Within 320_000_000 (m.target x l)
  pub geometry_within : (x : Vec3) (l : L) → Within 50_100_000 x → m.valid_light l → m.geometry x l ≤ 10 ^ 13
  pub one_valid : (l : L) → m.valid_light l → m.valid_clump (m.one l)
  pub one_count : (l : L) → m.valid_light l → m.count (m.one l) ≡ 1
  pub one_covers : (l : L) → m.valid_light l → m.covers (m.one l) l
  pub one_total : (l : L) → m.valid_light l → m.total (m.one l) ≡ m.power l
  pub join_valid : (a b : C) → m.valid_clump a → m.valid_clump b → m.count a + m.count b ≤ 65_536
      → m.valid_clump (m.join a b)
  pub join_count : (a b : C) → m.valid_clump a → m.valid_clump b → m.count (m.join a b) ≡ m.count a + m.count b
  pub join_total : (a b : C) → m.valid_clump a → m.valid_clump b
      → m.total (m.join a b) ≡ power_plus (m.total a) (m.total b)
  pub join_covers : (a b : C) (l : L) → m.valid_clump a → m.valid_clump b → m.valid_light l
      → m.covers a l ⊎ m.covers b l → m.covers (m.join a b) l
  pub count_within : (c : C) → m.valid_clump c → m.count c ≤ 65_536
  pub total_within : (c : C) → m.valid_clump c → IsPowerWithin (10 ^ 8 * m.count c) (m.total c)
  pub reach_within : (s : Spot) (c : C) (r : Rule) → IsSpot s → m.valid_clump c
      → IsRgbWithin (20_000 * 65_536 * 10 ^ 13) (m.reach s c r)
  pub top_is : (s : Spot) (c : C) (r : Rule) → IsSpot s → m.valid_clump c
      → m.top s c r ≡ by_power (m.reach s c r) (m.total c)
  -- among whatever triangles and under each rule, no light that a clump covers has a greater factor than the clump's
  -- bound
  pub dominates : (ts : List Tri) (s : Spot) (c : C) (r : Rule) (l : L) → IsSpot s → m.valid_clump c
      → m.valid_light l → m.covers c l → IsAtMost (m.reach s c r) (factor_of m ts s l)
  -- the bound under the second rule is nowhere above that under the first
  pub sharper : (s : Spot) (c : C) → IsSpot s → m.valid_clump c → IsAtMost (m.reach s c rule.One) (m.reach s c rule.Two)
