use Rattle.std.proofs.Common.{◌≡◌, ◌-◌, ◌≤◌, length}
use Rattle.std.specs.Prelude.{IsPermutation}
use Rattle.lc_hier.proofs.split.Split.divide.Given as goal

abbrev pub invariant-loop-first : goal.invariant-loop-first
invariant-loop-first l = record {
  moved : IsPermutation l.fn.items l.items;
  ordered : l.first ≤ l.end;
  within : l.end ≤ length l.items;
  same : length l.items ≡ length l.fn.items;
}

abbrev pub decreases-loop-first : goal.decreases-loop-first
decreases-loop-first l = l.end - l.first
