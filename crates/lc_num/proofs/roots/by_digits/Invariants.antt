use Rattle.std.proofs.Common.{◌≡◌, ◌^◌, ◌+◌, ◌*◌, ◌<◌, ◌≤◌}
use Rattle.lc_num.proofs.roots.by_digits.Given as goal

abbrev pub invariant-loop-place : goal.invariant-loop-place
invariant-loop-place g l = record {
  low : l.root * l.root ≤ l.n;
  high : l.n < (l.root + 2 ^ l.place) * (l.root + 2 ^ l.place);
  within : l.root + 2 ^ l.place ≤ 2 ^ 32;
  steps : l.steps + l.place ≡ l.fn.steps + 32;
}
