use Rattle.std.proofs.Common.{length}
use Rattle.lc_mtl.proofs.ReadLemmas.{Reading}
use Rattle.lc_mtl.proofs.reader.read_materials.Given as goal

abbrev pub invariant-loop-number : goal.invariant-loop-number
invariant-loop-number l = Reading l.held l.bytes l.lines l.drafts

abbrev pub decreases-loop-number : goal.decreases-loop-number
decreases-loop-number l = length l.lines
