use Rattle.std.proofs.Common.{◌≡◌, ◌^◌, ◌+◌, ◌*◌, ◌<◌, ◌≤◌}
use Rattle.lc_num.proofs.cosines.by_digits.Given as goal

abbrev pub invariant-loop-place : goal.invariant-loop-place
invariant-loop-place g l = record {
  low : l.root * l.root * l.squares ≤ l.top;
  high : l.top < (l.root + 2 ^ l.place) * (l.root + 2 ^ l.place) * l.squares;
  within : l.root + 2 ^ l.place ≤ 2 ^ 17;
  steps : l.steps + l.place ≡ l.fn.steps + 17;
}
