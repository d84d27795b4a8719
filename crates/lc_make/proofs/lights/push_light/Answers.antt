use Rattle.std.proofs.Common.{append_assoc, rules}
use Rattle.std.proofs.lemmas.Result.{IfOk-equal}
use Rattle.lc_make.specs.Made.{light_bytes, place_bytes}
use Rattle.lc_make.proofs.lights.push_light.Goals as goal

pub returns : goal.returns
unfolding light_bytes place_bytes
returns c = search (rules, IfOk-equal, append_assoc)
