use Rattle.lc_geom.proofs.Nearest.{nearest_none, none_nearest, nearest_is_hit, nearest_is_least, least_is_nearest}
use Rattle.lc_geom.proofs.laws.nearest_hit.Goals as goal

pub returns-clause-none : goal.returns-clause-none
returns-clause-none c e d = nearest_none e d

pub returns-clause-only_none : goal.returns-clause-only_none
returns-clause-only_none c e d = none_nearest e d

pub returns-clause-hit : goal.returns-clause-hit
returns-clause-hit c e d = nearest_is_hit e d

pub returns-clause-least : goal.returns-clause-least
returns-clause-least c e d = nearest_is_least e d

pub returns-clause-only : goal.returns-clause-only
returns-clause-only c e d = least_is_nearest e d
