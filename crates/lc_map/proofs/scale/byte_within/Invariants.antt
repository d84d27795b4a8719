use Rattle.std.proofs.Common.{◌≡◌, ◌⊎◌, ◌<◌, ◌≤◌, ◌-◌}
use Rattle.lc_map.specs.Scale.{share_of}
use Rattle.lc_map.proofs.scale.byte_within.Given as goal

abbrev pub invariant-loop-low : goal.invariant-loop-low
invariant-loop-low l = record {
  order : l.low < l.high;
  most : l.high ≤ 256;
  below : (l.low ≡ 0) ⊎ (share_of l.low ≤ l.ratio);
  above : (l.high ≡ 256) ⊎ (l.ratio < share_of l.high);
}

abbrev pub decreases-loop-low : goal.decreases-loop-low
decreases-loop-low l = l.high - l.low
