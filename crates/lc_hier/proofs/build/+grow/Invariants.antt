use Rattle.std.proofs.Common.{length}
use Rattle.lc_hier.proofs.build.+grow.Given as goal

abbrev pub decreases-grow : goal.decreases-grow
decreases-grow l = length l.items.now
