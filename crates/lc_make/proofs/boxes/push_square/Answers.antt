use Rattle.std.proofs.Common.{arith}
use Rattle.std.proofs.lemmas.Grind.{common_steps}
use Rattle.std.proofs.lemmas.Int.{to_z-of_z}
use Rattle.lc_make.specs.Made.{square_bytes}
use Rattle.lc_make.proofs.boxes.push_square.Goals as goal

pub returns : goal.returns
unfolding square_bytes
returns c = grind (arith, common_steps, to_z-of_z)
