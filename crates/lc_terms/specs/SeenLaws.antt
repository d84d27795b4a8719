-- What bounds the factor of a light that is seen bounds it also where something blocks the light.
use Rattle.std.proofs.Common.{Bool, true, false, List, if◌then◌else◌, arith}
use Rattle.lc_num.specs.Channels.{black, IsAtMost}
use Rattle.lc_num.specs.declared.channels.Rgb.{Rgb}
use Rattle.lc_geom.specs.declared.triangle.Tri.{Tri}
use Rattle.lc_terms.specs.Factor.{factor}
use Rattle.lc_terms.specs.Kind.{Meaning, is_seen, factor_of}
use Rattle.lc_terms.specs.declared.spot.Spot.{Spot}

pub black-below : (most : Rgb) → IsAtMost most black
black-below most = record { r = omega arith; g = omega arith; b = omega arith }

seen-below : (most c : Rgb) (seen : Bool) → IsAtMost most c → IsAtMost most (if seen then c else black)
seen-below most c true h = h
seen-below most c false h = black-below most

pub factor-below : {L C : Type 0} (m : Meaning L C) (ts : List Tri) (spot : Spot) (light : L) (most : Rgb)
    → IsAtMost most (factor spot (m.toward spot.x light) (m.geometry spot.x light))
    → IsAtMost most (factor_of m ts spot light)
factor-below m ts spot light most h =
    seen-below most (factor spot (m.toward spot.x light) (m.geometry spot.x light)) (is_seen m ts spot.x light) h
