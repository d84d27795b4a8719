-- How far lights extend on an axis, and the axis on which they extend the longest.
use Rattle.std.specs.Prelude.{ℤ, ◌≡◌, ◌-ℤ◌, ◌≤ℤ◌, ◌&&◌, Bool, if◌then◌else◌, List, map, All, Contains}
use Rattle.std.specs.Int.RustNames.{int_le}
use Rattle.std.specs.List.{list_all, list_any}
use Rattle.lc_num.specs.declared.vectors.Vec3.{Vec3}
use Rattle.lc_tree.specs.declared.axis.Axis.{Axis}
use Rattle.lc_tree.specs.declared.axis.Axis.TheVariants.{X, Y, Z}
use Rattle.lc_tree.specs.declared.numbered.Numbered.{Numbered}

abbrev pub coordinate : Axis → Vec3 → ℤ
coordinate X v = v.x
coordinate Y v = v.y
coordinate Z v = v.z

-- the greatest of some numbers is one of them, and none of them passes it; the least likewise
pub record IsGreatest (xs : List ℤ) (n : ℤ) : Type 0 where
  pub reached : Contains xs n
  pub passed_by_none : All (λ x. x ≤ℤ n) xs

pub record IsLeast (xs : List ℤ) (n : ℤ) : Type 0 where
  pub reached : Contains xs n
  pub passed_by_none : All (λ x. n ≤ℤ x) xs

-- how far some numbers extend: the greatest less the least
pub record IsExtent (xs : List ℤ) (n : ℤ) : Type 0 where
  pub greatest : ℤ
  pub least : ℤ
  pub is_greatest : IsGreatest xs greatest
  pub is_least : IsLeast xs least
  pub is : n ≡ greatest -ℤ least

-- the axis of the longest of three extents, ties going to x, then y
abbrev pub longest : Vec3 → Axis
longest v = if int_le v.y v.x && int_le v.z v.x then X else if int_le v.z v.y then Y else Z

-- whether some two of the numbers are at least so far apart
unfoldable pub are_apart : List ℤ → ℤ → Bool
are_apart xs n = list_any (λ a. list_any (λ b. int_le n (a -ℤ b)) xs) xs

-- whether some two of the first numbers are at least as far apart as any two of the second
unfoldable pub extend_as_far : List ℤ → List ℤ → Bool
extend_as_far xs ys = list_all (λ a. list_all (λ b. are_apart xs (a -ℤ b)) ys) ys

module _ {L : Type 0} where
  -- the coordinates of lights on an axis
  abbrev pub coordinates : Axis → List (Numbered L) → List ℤ
  coordinates axis es = map (λ e. coordinate axis e.place) es

  -- the extents of lights on the three axes
  pub record AreExtents (es : List (Numbered L)) (v : Vec3) : Type 0 where
    pub x : IsExtent (coordinates X es) v.x
    pub y : IsExtent (coordinates Y es) v.y
    pub z : IsExtent (coordinates Z es) v.z

  -- the axis on which lights extend the longest: x where some two of them are as far apart on it as any two are on y
  -- and as any two are on z, else y where that holds of y and z, else z
  unfoldable pub longest_axis : List (Numbered L) → Axis
  longest_axis es =
      if extend_as_far (coordinates X es) (coordinates Y es) && extend_as_far (coordinates X es) (coordinates Z es)
      then X
      else if extend_as_far (coordinates Y es) (coordinates Z es) then Y else Z
