use Rattle.lc_light.specs.declared.area.Area.{Area}
use Rattle.lc_light.specs.declared.lights.Oriented.{Oriented}
use Rattle.lc_light.proofs.ShareLemmas.{text_sum, red_of, green_of, blue_of}
use Rattle.lc_light.proofs.reader.oriented_powers_are_those_of_areas.Goals as goal

pub returns-clause-red : goal.returns-clause-red
returns-clause-red c = text_sum (λ (light : Oriented). light.power.r) (λ (area : Area). area.power.r) red_of

pub returns-clause-green : goal.returns-clause-green
returns-clause-green c = text_sum (λ (light : Oriented). light.power.g) (λ (area : Area). area.power.g) green_of

pub returns-clause-blue : goal.returns-clause-blue
returns-clause-blue c = text_sum (λ (light : Oriented). light.power.b) (λ (area : Area). area.power.b) blue_of
