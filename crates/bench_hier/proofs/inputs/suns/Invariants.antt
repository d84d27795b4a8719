use Rattle.std.proofs.Common.{All}
use Rattle.lc_num.specs.Vectors.{Within}
use Rattle.bench_hier.proofs.inputs.suns.Given as goal

abbrev pub invariant-loop : goal.invariant-loop
invariant-loop l = All (Within 268_435_456) l.list
