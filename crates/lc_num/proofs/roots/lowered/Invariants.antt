use Rattle.std.proofs.Common.{◌≡◌, ◌+◌, ◌≤◌}
use Rattle.lc_num.proofs.roots.lowered.Given as goal

abbrev pub invariant-loop : goal.invariant-loop
invariant-loop g l = record { most : l.root ≤ l.guess; steps : l.steps ≡ l.fn.steps + l.counter }
