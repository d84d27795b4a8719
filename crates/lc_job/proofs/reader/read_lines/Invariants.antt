use Rattle.std.proofs.Common.{length}
use Rattle.lc_job.proofs.ReadLemmas.{Reading}
use Rattle.lc_job.proofs.reader.read_lines.Given as goal

abbrev pub invariant-loop-number : goal.invariant-loop-number
invariant-loop-number l = Reading l.bytes l.lines l.draft

abbrev pub decreases-loop-number : goal.decreases-loop-number
decreases-loop-number l = length l.lines
