use Rattle.std.proofs.Common.{◌≡◌, ◌*◌, ◌^◌}
use Rattle.lc_num.specs.Channels.{IsRgbWithin}
use Rattle.lc_frame.specs.Parts.{sum_at, sums_of}
use Rattle.lc_frame.proofs.LoopLemmas.{items}
use Rattle.lc_frame.proofs.plain.plain_sums.Given as goal

abbrev pub invariant-loop-k : goal.invariant-loop-k
invariant-loop-k l = record {
  sums : l.sums ≡ sums_of (items (sum_at l.job l.scene l.row l.col) l.k);
  within : IsRgbWithin (l.k * 2 ^ 117) l.sums;
}
