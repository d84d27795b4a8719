-- Spots within their ranges.
use Rattle.std.specs.Prelude.{◌≤◌}
use Rattle.lc_num.specs.Vectors.{Within}
use Rattle.lc_num.specs.Channels.{IsColourWithin}
use Rattle.lc_terms.specs.declared.spot.Spot.{Spot}

pub record IsSpot (spot : Spot) : Type 0 where
  pub x : Within 50_100_000 spot.x
  pub n : Within 16384 spot.n
  pub r : Within 16384 spot.r
  pub kd : IsColourWithin 10000 spot.kd
  pub ks : IsColourWithin 10000 spot.ks
  pub ns : spot.ns ≤ 1000
