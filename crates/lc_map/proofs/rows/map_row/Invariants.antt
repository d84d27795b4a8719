use Rattle.std.proofs.Common.{◌≡◌, ◌*◌, ◌≤◌, vec_len, vec_capacity}
use Rattle.lc_frame.proofs.LoopLemmas.{firsts}
use Rattle.lc_map.specs.Map.{pixel_bytes}
use Rattle.lc_map.proofs.rows.map_row.Given as goal

abbrev pub invariant-loop-col : goal.invariant-loop-col
invariant-loop-col l = record {
  bytes : l.bytes.items ≡ firsts (pixel_bytes l.kind l.kept l.row) l.col;
  len : vec_len l.bytes ≡ 3 * l.col;
  space : vec_capacity l.initial.bytes ≤ vec_capacity l.bytes;
}
