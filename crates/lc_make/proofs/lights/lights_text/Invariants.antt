use Rattle.std.proofs.Common.{◌≡◌, flat_map}
use Rattle.lc_make.specs.Made.{below, light_bytes}
use Rattle.lc_make.proofs.lights.lights_text.Given as goal

abbrev pub invariant-loop-i : goal.invariant-loop-i
invariant-loop-i l = l.lights ≡ flat_map light_bytes (below l.i)
