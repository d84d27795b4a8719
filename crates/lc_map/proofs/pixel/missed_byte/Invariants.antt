use Rattle.std.proofs.Common.{◌≡◌, take}
use Rattle.std.specs.List.{count_by}
use Rattle.lc_map.specs.Scale.{misses}
use Rattle.lc_map.proofs.pixel.missed_byte.Given as goal

abbrev pub invariant-loop-sample : goal.invariant-loop-sample
invariant-loop-sample l = l.count ≡ count_by (misses l.permille) (take l.sample-index l.samples)
