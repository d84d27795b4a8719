-- Lights within their ranges.
use Rattle.std.specs.Prelude.{◌+◌, ◌≤◌, length, All}
use Rattle.lc_num.specs.Vectors.{Within}
use Rattle.lc_num.specs.Channels.{IsPowerWithin}
use Rattle.lc_light.specs.declared.lights.Omni.{Omni}
use Rattle.lc_light.specs.declared.lights.Oriented.{Oriented}
use Rattle.lc_light.specs.declared.lights.Sun.{Sun}
use Rattle.lc_light.specs.declared.lights.Lights.{Lights}

-- a coordinate is at most 5000.0000, an intensity at most 10000.0000, and a normal or a direction at most 16384 long
pub record IsOmni (light : Omni) : Type 0 where
  pub place : Within 50_000_000 light.place
  pub power : IsPowerWithin 100_000_000 light.power

pub record IsOriented (light : Oriented) : Type 0 where
  pub place : Within 50_000_000 light.place
  pub normal : Within 16384 light.normal
  pub power : IsPowerWithin 100_000_000 light.power

pub record IsSun (light : Sun) : Type 0 where
  pub toward : Within 16384 light.toward
  pub power : IsPowerWithin 100_000_000 light.power

-- lights within their ranges, and not too many
pub record AreLights (lights : Lights) : Type 0 where
  pub omni : All IsOmni lights.omni
  pub oriented : All IsOriented lights.oriented
  pub sun : All IsSun lights.sun
  pub count : length lights.omni + length lights.oriented + length lights.sun ≤ 65536
