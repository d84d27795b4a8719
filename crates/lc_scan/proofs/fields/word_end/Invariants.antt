use Rattle.std.proofs.Common.{◌≡◌, ℕ, ◌<◌, ◌≤◌, false, get_or}
use Rattle.lc_scan.specs.Fields.{is_blank, spaced}
use Rattle.lc_scan.proofs.fields.word_end.Given as goal

abbrev pub invariant-loop-end : goal.invariant-loop-end
invariant-loop-end l = (k : ℕ) → l.at ≤ k → k < l.end → is_blank (get_or (spaced l.line) k 0) ≡ false
