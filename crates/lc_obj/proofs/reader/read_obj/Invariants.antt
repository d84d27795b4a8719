use Rattle.std.proofs.Common.{length}
use Rattle.lc_obj.proofs.ReadLemmas.{Read}
use Rattle.lc_obj.proofs.reader.read_obj.Given as goal

abbrev pub invariant-loop-number : goal.invariant-loop-number
invariant-loop-number l = Read l.bytes l.lines l.reading

abbrev pub decreases-loop-number : goal.decreases-loop-number
decreases-loop-number l = length l.lines
