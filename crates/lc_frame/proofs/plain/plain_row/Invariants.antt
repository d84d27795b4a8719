use Rattle.std.proofs.Common.{◌≡◌, ◌*◌, ◌≤◌, vec_len, vec_capacity}
use Rattle.lc_frame.specs.Parts.{pixel_lights}
use Rattle.lc_frame.specs.PlainFrames.{plain_bytes}
use Rattle.lc_frame.proofs.LoopLemmas.{items}
use Rattle.lc_frame.proofs.plain.plain_row.Given as goal

abbrev pub invariant-loop-col : goal.invariant-loop-col
invariant-loop-col l = record {
  bytes : l.bytes.items ≡ plain_bytes l.job.white (items (pixel_lights l.job l.scene l.row) l.col);
  len : vec_len l.bytes ≡ 3 * l.col;
  space : vec_capacity l.initial.bytes ≤ vec_capacity l.bytes;
}
