use Rattle.std.proofs.Common.{◌-◌, length}
use Rattle.lc_scan.proofs.LineLemmas.{Passed}
use Rattle.lc_scan.proofs.lines.first_line.Given as goal

abbrev pub invariant-loop-at : goal.invariant-loop-at
invariant-loop-at l = Passed l.number l.next l.text l.end

abbrev pub decreases-loop-at : goal.decreases-loop-at
decreases-loop-at l = length l.text - l.end
