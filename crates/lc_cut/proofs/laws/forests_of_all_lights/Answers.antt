use Rattle.std.proofs.Common.{refl}
use Rattle.lc_cut.proofs.Building.{forest_of_is}
use Rattle.lc_cut.proofs.laws.forests_of_all_lights.Goals as goal

pub returns : goal.returns
returns c = record { valid = forest_of_is; lights = λ seed lights. refl }
