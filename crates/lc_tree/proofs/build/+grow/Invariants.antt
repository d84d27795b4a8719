use Rattle.std.proofs.Common.{length}
use Rattle.lc_tree.proofs.build.+grow.Given as goal

abbrev pub decreases-grow : goal.decreases-grow
decreases-grow g l = length l.lights.now
