use Rattle.std.proofs.Common.{All}
use Rattle.lc_num.specs.Vectors.{Within}
use Rattle.bench_hier.proofs.inputs.lamps.Given as goal

abbrev pub invariant-loop : goal.invariant-loop
invariant-loop l = All (Within 50_000) l.list
