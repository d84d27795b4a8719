use Rattle.std.proofs.Common.{◌≡◌, ℕ, ◌<◌, true, get_or}
use Rattle.lc_scan.specs.Fields.{is_blank}
use Rattle.lc_scan.proofs.fields.leading_blanks.Given as goal

abbrev pub invariant-loop-at : goal.invariant-loop-at
invariant-loop-at l = (k : ℕ) → k < l.at → is_blank (get_or l.bytes k 0) ≡ true
