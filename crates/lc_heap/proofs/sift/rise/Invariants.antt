use Rattle.std.proofs.Common.{◌+◌, ◌<◌, ◌≤◌, length, set, IsPermutation}
use Rattle.lc_heap.specs.Bits.{bits}
use Rattle.lc_heap.proofs.Opening.{Rises}
use Rattle.lc_heap.proofs.sift.rise.Given as goal

abbrev pub invariant-loop-at : goal.invariant-loop-at
invariant-loop-at g l = record {
  within : l.at < length l.entries;
  moved : IsPermutation (set l.initial.entries l.initial.at l.entry) (set l.entries l.at l.entry);
  rising : Rises (set l.entries l.at l.entry) l.at;
  counted : l.initial.steps ≤ l.steps;
  steps : l.steps + bits l.at ≤ l.initial.steps + bits l.initial.at;
}

abbrev pub decreases-loop-at : goal.decreases-loop-at
decreases-loop-at g l = l.at
