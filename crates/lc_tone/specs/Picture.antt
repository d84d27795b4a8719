-- The bytes of a picture, by the radiances at its samples.
use Rattle.std.specs.Prelude.{ℕ, ◌/◌, List, [], ◌∷◌, ◌++◌, length, sum_by, flat_map}
use Rattle.lc_num.specs.declared.channels.Rgb.{Rgb}
use Rattle.lc_tone.specs.Tone.{byte_of, header_bytes}

-- the mean of a channel over samples, rounded down
abbrev pub mean : (Rgb → ℕ) → List Rgb → ℕ
mean channel samples = sum_by channel samples / length samples

-- one byte for each channel of a pixel: that of the mean over its samples
unfoldable pub pixel_bytes : ℕ → List Rgb → List ℕ
pixel_bytes white samples =
    byte_of (mean (λ c. c.r) samples) white ∷ byte_of (mean (λ c. c.g) samples) white ∷ byte_of
    (mean (λ c. c.b) samples) white ∷ []

-- the binary PPM picture of so many columns and rows under a white point, by its pixels from the left and from the top,
-- each by the radiances at its samples
unfoldable pub picture : ℕ → ℕ → ℕ → List (List Rgb) → List ℕ
picture width height white pixels = header_bytes width height ++ flat_map (pixel_bytes white) pixels
