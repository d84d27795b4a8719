-- The byte that shows a radiance, and the header of a picture.
use Rattle.std.specs.Prelude.{ℕ, ◌*◌, ◌/◌, ◌^◌, nat_le, if◌then◌else◌, List, ◌++◌, codes, decimal}
use Rattle.lc_num.specs.Roots.{isqrt}

-- the least radiance that is shown as white, for a white point in units of 1/10000
abbrev pub white_radiance : ℕ → ℕ
white_radiance white = white * 65536 * 10 ^ 13

-- the byte of a radiance v: 255 from white on, and below it the root of v's share of white, 65025 being 255 * 255
unfoldable pub byte_of : ℕ → ℕ → ℕ
byte_of v white = if nat_le (white_radiance white) v then 255 else isqrt (65025 * v / white_radiance white)

-- the header of a binary PPM picture of so many columns and rows
unfoldable pub header_bytes : ℕ → ℕ → List ℕ
header_bytes width height = codes "P6\n" ++ decimal width ++ codes " " ++ decimal height ++ codes "\n255\n"
