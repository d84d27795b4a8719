-- How far places reach.
use Rattle.std.proofs.Common.{arith}
use Rattle.std.proofs.lemmas.Int.{ints}
use Rattle.lc_num.specs.Vectors.{Within, zero_vector}
use Rattle.lc_num.specs.declared.vectors.Vec3.{Vec3}
use Rattle.lc_geom.specs.Hits.{moved}

pub origin_within : Within 0 zero_vector
origin_within = record { x = omega arith; y = omega arith; z = omega arith }

pub moved_within : (e d : Vec3) → Within 50_016 e → Within 268_435_456 d → Within 320_000_000 (moved e d)
moved_within e d he hd = record {
  x = omega (arith, ints, he.x, hd.x);
  y = omega (arith, ints, he.y, hd.y);
  z = omega (arith, ints, he.z, hd.z);
}
