use Rattle.std.proofs.Common.{◌≡◌, ◌+◌, ◌≤◌}
use Rattle.lc_num.proofs.cosines.lowered.Given as goal

abbrev pub invariant-loop : goal.invariant-loop
invariant-loop g l = record { most : l.root ≤ 65536; steps : l.steps ≡ l.fn.steps + l.counter }
