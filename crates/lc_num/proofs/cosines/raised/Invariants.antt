use Rattle.std.proofs.Common.{◌≡◌, ◌+◌, ◌*◌, ◌≤◌}
use Rattle.lc_num.proofs.cosines.raised.Given as goal

abbrev pub invariant-loop : goal.invariant-loop
invariant-loop g l = record {
  small : l.root ≤ 65536;
  low : l.root * l.root * l.squares ≤ l.top;
  steps : l.steps ≡ l.fn.steps + l.counter;
}
