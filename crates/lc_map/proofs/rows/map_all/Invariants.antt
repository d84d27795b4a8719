use Rattle.std.proofs.Common.{◌≤◌, vec_capacity}
use Rattle.lc_desk.specs.Calls.{Made}
use Rattle.lc_frame.proofs.LoopLemmas.{firsts}
use Rattle.lc_map.specs.Outcome.{row_put}
use Rattle.lc_map.proofs.rows.map_all.Given as goal

abbrev pub invariant-loop-row : goal.invariant-loop-row
invariant-loop-row g l = record {
  made : Made (firsts (row_put l.kind l.kept) l.row) (g.D.Desk.state l.initial.desk) (g.D.Desk.state l.desk);
  space : vec_capacity l.initial.bytes ≤ vec_capacity l.bytes;
}
