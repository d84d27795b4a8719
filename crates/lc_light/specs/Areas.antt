-- Area lights, and the samples that they become.
use Rattle.std.specs.Prelude.{◌≡◌, ℕ, ◌+◌, ◌/◌, ◌%◌, ◌≤◌, Bool, ◌&&◌, nat_lt, List, map, sum_by, if◌then◌else◌, ℤ, pos, ◌+ℤ◌, ◌*ℤ◌}
use Rattle.std.specs.Int.{int_div_euclid}
use Rattle.std.specs.List.{enumerate_from, range_with_len}
use Rattle.lc_num.specs.declared.vectors.Vec3.{Vec3}
use Rattle.lc_num.specs.declared.channels.Power.{Power}
use Rattle.lc_num.specs.Vectors.{Within, cross, square}
use Rattle.lc_num.specs.Channels.{IsPowerWithin}
use Rattle.lc_num.specs.Cosines.{scaled}
use Rattle.lc_scan.specs.Coordinates.{is_place}
use Rattle.lc_light.specs.declared.area.Area.{Area}
use Rattle.lc_light.specs.declared.lights.Oriented.{Oriented}

-- ---- corners and sides

-- a place, moved by a vector
abbrev pub moved : Vec3 → Vec3 → Vec3
moved place by = record { x = place.x +ℤ by.x; y = place.y +ℤ by.y; z = place.z +ℤ by.z }

-- the three corners besides the first are places
abbrev pub has_places : Area → Bool
has_places area =
    is_place (moved area.corner area.along) && is_place (moved area.corner area.across)
    && is_place (moved (moved area.corner area.along) area.across)

-- the sides span an area where their cross product is not zero
abbrev pub spans : Area → Bool
spans area = nat_lt 0 (square (cross area.along area.across))

-- the four corners are places, and the intensity and the number of samples are in their ranges
pub record IsArea (area : Area) : Type 0 where
  pub corner : Within 50_000_000 area.corner
  pub along_end : Within 50_000_000 (moved area.corner area.along)
  pub across_end : Within 50_000_000 (moved area.corner area.across)
  pub opposite : Within 50_000_000 (moved (moved area.corner area.along) area.across)
  pub power : IsPowerWithin 100_000_000 area.power
  pub some : 1 ≤ area.count
  pub few : area.count ≤ 4096

-- ---- samples

-- the part w/65536 of a side, rounded down
abbrev pub part : ℤ → ℕ → ℤ
part side w = int_div_euclid (side *ℤ pos w) (pos 65536)

-- a coordinate by those of the corner and the two sides: a word's lower 16 bits go along the first, its upper 16 bits
-- along the second
abbrev pub coordinate_by : ℕ → ℤ → ℤ → ℤ → ℤ
coordinate_by word corner along across = corner +ℤ part along (word % 65536) +ℤ part across (word / 65536)

-- the place on an area light that a word picks
abbrev pub place_by : ℕ → Area → Vec3
place_by word area = record {
  x = coordinate_by word area.corner.x area.along.x area.across.x;
  y = coordinate_by word area.corner.y area.along.y area.across.y;
  z = coordinate_by word area.corner.z area.along.z area.across.z;
}

-- share k of the n shares of an intensity: the first of them have one unit more, so that all add up to it
abbrev pub share : ℕ → ℕ → ℕ → ℕ
share intensity n k = intensity / n + (if nat_lt k (intensity % n) then 1 else 0)

abbrev pub power_share : Power → ℕ → ℕ → Power
power_share power n k = record { r = share power.r n k; g = share power.g n k; b = share power.b n k }

unfoldable pub normal : Area → Vec3
normal area = scaled (cross area.along area.across) 16384

-- the samples of an area light, by their numbers
abbrev pub numbered : Area → List (Area × ℕ)
numbered area = map (λ k. (area, k)) (range_with_len 0 area.count)

-- the oriented light of a sample, by its word
unfoldable pub sample : ℕ → Area × ℕ → Oriented
sample word s = record { place = place_by word s.0; normal = normal s.0; power = power_share s.0.power s.0.count s.1 }

-- the oriented lights of samples, each by the word of its place in the list; the first has the place n
unfoldable pub samples_from : (ℕ → ℕ) → ℕ → List (Area × ℕ) → List Oriented
samples_from word n list = map (λ p. sample (word p.0) p.1) (enumerate_from n list)

-- in a channel the samples of an area light have together what it has, whatever words give them their places
abbrev pub AddsUp : (Power → ℕ) → Type 0
AddsUp channel =
    (word : ℕ → ℕ) (at : ℕ) (area : Area) → 1 ≤ area.count
    → sum_by (λ (light : Oriented). channel light.power) (samples_from word at (numbered area)) ≡ channel area.power
