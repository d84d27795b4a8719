use Rattle.std.proofs.Common.{length}
use Rattle.lc_obj.proofs.LibraryLemmas.{Named}
use Rattle.lc_obj.proofs.reading.add_libraries.Given as goal

abbrev pub invariant-loop-name : goal.invariant-loop-name
invariant-loop-name l = Named l.fn.values l.fn.named l.values l.named l.libs

abbrev pub decreases-loop-name : goal.decreases-loop-name
decreases-loop-name l = length l.values
