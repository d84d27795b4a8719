use Rattle.std.proofs.Common.{◌≡◌, ℕ, ◌<◌, ◌≤◌, get_or, length, take}
use Rattle.lc_tree.specs.Rows.{leaf_numbers}
use Rattle.lc_tree.proofs.leaves.firsts_of.Given as goal

abbrev pub invariant-loop-row : goal.invariant-loop-row
invariant-loop-row g l = record {
  len : length l.firsts.items ≡ l.row-index;
  first : l.first ≡ length (leaf_numbers (take l.row-index l.rows));
  few : l.first ≤ l.row-index;
  firsts : (k : ℕ) → k < l.row-index → get_or l.firsts.items k 0 ≡ length (leaf_numbers (take k l.rows));
}
