use Rattle.std.proofs.Common.{◌≡◌, take}
use Rattle.std.specs.List.{list_any}
use Rattle.lc_algebra.specs.Greatest.{greatest_up_to}
use Rattle.lc_map.specs.Scale.{sample_reaches}
use Rattle.lc_map.proofs.pixel.bound_byte.Given as goal

abbrev pub invariant-loop-sample : goal.invariant-loop-sample
invariant-loop-sample l = l.greatest ≡ greatest_up_to (λ byte. list_any (sample_reaches byte) (take l.sample-index l.samples)) 255
