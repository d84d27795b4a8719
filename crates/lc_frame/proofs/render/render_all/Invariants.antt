use Rattle.std.proofs.Common.{◌≡◌, ◌+◌, ◌*◌, ◌^◌, ◌≤◌, flat_map, vec_capacity}
use Rattle.lc_desk.specs.Calls.{Made}
use Rattle.lc_view.specs.Samples.{flat}
use Rattle.lc_frame.specs.Frames.{evals_of, row_calls}
use Rattle.lc_frame.specs.Parts.{row_answers, with_more}
use Rattle.lc_frame.proofs.LoopLemmas.{items}
use Rattle.lc_frame.proofs.render.render_all.Given as goal

abbrev pub invariant-loop-row : goal.invariant-loop-row
invariant-loop-row g l = record {
  made : Made (flat_map (row_calls l.job.white) (items (row_answers l.job l.scene) l.row)) (g.D.Desk.state l.initial.desk) (g.D.Desk.state l.desk);
  space : vec_capacity l.initial.room.row ≤ vec_capacity l.room.row;
  bench : l.room.bench ≡ l.initial.room.bench;
  summary : l.summary ≡ with_more (flat_map flat (items (row_answers l.job l.scene) l.row)) l.initial.summary;
  few : l.summary.samples ≤ 2 ^ 20 * l.row;
  sizes : l.summary.sizes ≤ 65536 * l.summary.samples;
  steps : l.steps ≡ l.initial.steps + evals_of (flat_map flat (items (row_answers l.job l.scene) l.row));
}
