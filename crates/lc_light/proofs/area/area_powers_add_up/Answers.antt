use Rattle.lc_light.specs.declared.area.Area.{Area}
use Rattle.lc_light.specs.declared.lights.Oriented.{Oriented}
use Rattle.lc_light.proofs.ShareLemmas.{shares_add_up, area_sum, red_of, green_of, blue_of}
use Rattle.lc_light.proofs.area.area_powers_add_up.Goals as goal

pub returns-clause-shares : goal.returns-clause-shares
returns-clause-shares c = shares_add_up

pub returns-clause-red : goal.returns-clause-red
returns-clause-red c = area_sum (λ (light : Oriented). light.power.r) (λ (area : Area). area.power.r) red_of

pub returns-clause-green : goal.returns-clause-green
returns-clause-green c = area_sum (λ (light : Oriented). light.power.g) (λ (area : Area). area.power.g) green_of

pub returns-clause-blue : goal.returns-clause-blue
returns-clause-blue c = area_sum (λ (light : Oriented). light.power.b) (λ (area : Area). area.power.b) blue_of
