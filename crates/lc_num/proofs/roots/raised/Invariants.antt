use Rattle.std.proofs.Common.{◌≡◌, ◌+◌, ◌*◌, ◌≤◌}
use Rattle.lc_num.proofs.roots.raised.Given as goal

abbrev pub invariant-loop : goal.invariant-loop
invariant-loop g l = record { low : l.root * l.root ≤ l.n; steps : l.steps ≡ l.fn.steps + l.counter }
