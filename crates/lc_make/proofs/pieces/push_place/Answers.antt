use Rattle.std.proofs.Common.{arith}
use Rattle.std.proofs.lemmas.Grind.{common_steps}
use Rattle.std.proofs.lemmas.Int.{to_z-of_z}
use Rattle.lc_make.specs.Made.{place_bytes}
use Rattle.lc_make.proofs.pieces.push_place.Goals as goal

pub returns : goal.returns
unfolding place_bytes
returns c = grind (arith, common_steps, to_z-of_z)
