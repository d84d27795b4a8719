use Rattle.lc_geom.proofs.BlockedBy.{blocked_some, blocked_each}
use Rattle.lc_geom.proofs.laws.blocked_by.Goals as goal

pub returns-clause-some : goal.returns-clause-some
returns-clause-some c = blocked_some

pub returns-clause-each : goal.returns-clause-each
returns-clause-each c = blocked_each
