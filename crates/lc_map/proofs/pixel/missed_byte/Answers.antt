use Rattle.std.proofs.Common.{arith}
use Rattle.std.proofs.lemmas.Grind.{common_steps}
use Rattle.lc_map.specs.Map.{missed_byte}
use Rattle.lc_map.proofs.pixel.missed_byte.Goals as goal

pub returns : goal.returns
unfolding missed_byte
returns c = grind (arith, common_steps)
