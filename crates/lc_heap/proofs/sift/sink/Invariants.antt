use Rattle.std.proofs.Common.{◌+◌, ◌-◌, ◌*◌, ◌<◌, ◌≤◌, length, set, IsPermutation}
use Rattle.lc_heap.specs.Bits.{bits}
use Rattle.lc_heap.proofs.Opening.{Sinks}
use Rattle.lc_heap.proofs.sift.sink.Given as goal

abbrev pub invariant-loop-at : goal.invariant-loop-at
invariant-loop-at g l = record {
  within : l.at < length l.entries;
  moved : IsPermutation (set l.initial.entries 0 l.entry) (set l.entries l.at l.entry);
  sinking : Sinks (set l.entries l.at l.entry) l.at;
  counted : l.initial.steps ≤ l.steps;
  steps : l.steps + 2 ≤ l.initial.steps + 2 * bits (l.at + 1);
}

abbrev pub decreases-loop-at : goal.decreases-loop-at
decreases-loop-at g l = length l.entries - l.at
