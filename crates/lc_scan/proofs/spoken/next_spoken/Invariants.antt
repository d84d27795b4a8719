use Rattle.std.proofs.Common.{◌≡◌, ◌≤◌, length}
use Rattle.lc_scan.specs.Spoken.{spoken_in}
use Rattle.lc_scan.proofs.spoken.next_spoken.Given as goal

abbrev pub invariant-loop-number : goal.invariant-loop-number
invariant-loop-number l = (spoken_in l.initial.lines ≡ spoken_in l.lines) × (length l.lines ≤ length l.initial.lines)

abbrev pub decreases-loop-number : goal.decreases-loop-number
decreases-loop-number l = length l.lines
