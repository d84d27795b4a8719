-- The three channels red, green and blue.
use Rattle.std.specs.Prelude.{ℕ, ◌+◌, ◌*◌, ◌≤◌}
use Rattle.lc_num.specs.declared.channels.Rgb.{Rgb}
use Rattle.lc_num.specs.declared.channels.Power.{Power}
use Rattle.lc_num.specs.declared.channels.Colour.{Colour}

-- nothing in each channel
abbrev pub black : Rgb
black = record { r = 0; g = 0; b = 0 }

-- each channel is at most `most`
pub record IsPowerWithin (most : ℕ) (p : Power) : Type 0 where
  pub r : p.r ≤ most
  pub g : p.g ≤ most
  pub b : p.b ≤ most

pub record IsColourWithin (most : ℕ) (c : Colour) : Type 0 where
  pub r : c.r ≤ most
  pub g : c.g ≤ most
  pub b : c.b ≤ most

pub record IsRgbWithin (most : ℕ) (c : Rgb) : Type 0 where
  pub r : c.r ≤ most
  pub g : c.g ≤ most
  pub b : c.b ≤ most

-- the sum in each channel
abbrev pub plus : Rgb → Rgb → Rgb
plus a b = record { r = a.r + b.r; g = a.g + b.g; b = a.b + b.b }

-- a number times each channel
abbrev pub times : ℕ → Rgb → Rgb
times n c = record { r = n * c.r; g = n * c.g; b = n * c.b }

-- each channel times that of an intensity
abbrev pub by_power : Rgb → Power → Rgb
by_power c p = record { r = c.r * p.r; g = c.g * p.g; b = c.b * p.b }

-- the sum of two intensities
abbrev pub power_plus : Power → Power → Power
power_plus a b = record { r = a.r + b.r; g = a.g + b.g; b = a.b + b.b }

-- each channel is at most that of `most`
pub record IsAtMost (most c : Rgb) : Type 0 where
  pub r : c.r ≤ most.r
  pub g : c.g ≤ most.g
  pub b : c.b ≤ most.b
