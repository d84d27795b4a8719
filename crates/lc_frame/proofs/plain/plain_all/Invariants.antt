use Rattle.std.proofs.Common.{◌≤◌, flat_map, vec_capacity}
use Rattle.lc_desk.specs.Calls.{Made}
use Rattle.lc_frame.specs.Parts.{row_lights}
use Rattle.lc_frame.specs.PlainFrames.{plain_put}
use Rattle.lc_frame.proofs.LoopLemmas.{items}
use Rattle.lc_frame.proofs.plain.plain_all.Given as goal

abbrev pub invariant-loop-row : goal.invariant-loop-row
invariant-loop-row g l = record {
  made : Made (flat_map (plain_put l.job.white) (items (row_lights l.job l.scene) l.row)) (g.D.Desk.state l.initial.desk) (g.D.Desk.state l.desk);
  space : vec_capacity l.initial.bytes ≤ vec_capacity l.bytes;
}
