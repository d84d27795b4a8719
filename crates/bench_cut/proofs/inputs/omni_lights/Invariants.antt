use Rattle.std.proofs.Common.{◌≤◌, All, length}
use Rattle.lc_light.specs.Lights.{IsOmni}
use Rattle.bench_cut.proofs.inputs.omni_lights.Given as goal

abbrev pub invariant-loop : goal.invariant-loop
invariant-loop l = record { valid : All IsOmni l.lights; few : length l.lights ≤ l.counter; counter : l.counter ≤ l.count }
