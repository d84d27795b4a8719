use Rattle.std.proofs.Common.{◌≤◌, All, length}
use Rattle.lc_light.specs.Lights.{IsOriented}
use Rattle.bench_cut.proofs.inputs.oriented_lights.Given as goal

abbrev pub invariant-loop : goal.invariant-loop
invariant-loop l = record { valid : All IsOriented l.lights; few : length l.lights ≤ l.counter; counter : l.counter ≤ l.count }
