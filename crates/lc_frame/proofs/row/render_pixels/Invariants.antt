use Rattle.std.proofs.Common.{◌≡◌, ◌+◌, ◌*◌, ◌≤◌, flat_map, vec_len, vec_capacity}
use Rattle.lc_desk.specs.Calls.{Made}
use Rattle.lc_view.specs.Samples.{flat}
use Rattle.lc_frame.specs.Frames.{evals_of, lines_of, row_bytes}
use Rattle.lc_frame.specs.Parts.{pixel_answers, with_more}
use Rattle.lc_frame.proofs.LoopLemmas.{items}
use Rattle.lc_frame.proofs.row.render_pixels.Given as goal

abbrev pub invariant-loop-col : goal.invariant-loop-col
invariant-loop-col g l = record {
  made : Made (flat_map lines_of (items (pixel_answers l.job l.scene l.row) l.col)) (g.D.Desk.state l.initial.desk) (g.D.Desk.state l.desk);
  bytes : l.room.row.items ≡ row_bytes l.job.white (items (pixel_answers l.job l.scene l.row) l.col);
  len : vec_len l.room.row ≡ 3 * l.col;
  space : vec_capacity l.initial.room.row ≤ vec_capacity l.room.row;
  bench : l.room.bench ≡ l.initial.room.bench;
  summary : l.summary ≡ with_more (flat (items (pixel_answers l.job l.scene l.row) l.col)) l.initial.summary;
  few : l.summary.samples ≤ l.initial.summary.samples + 256 * l.col;
  sizes : l.summary.sizes ≤ 65536 * l.summary.samples;
  steps : l.steps ≡ l.initial.steps + evals_of (flat (items (pixel_answers l.job l.scene l.row) l.col));
}
