use Rattle.std.proofs.Common.{◌≡◌, ◌+◌, ◌*◌, ◌^◌, ◌≤◌}
use Rattle.lc_num.specs.Channels.{IsRgbWithin}
use Rattle.lc_desk.specs.Calls.{Made}
use Rattle.lc_frame.specs.Frames.{estimates, evals_of, lines_of}
use Rattle.lc_frame.specs.Parts.{sample_at, sums_of, with_more}
use Rattle.lc_frame.proofs.LoopLemmas.{items}
use Rattle.lc_frame.proofs.pixel.render_samples.Given as goal

abbrev pub invariant-loop-k : goal.invariant-loop-k
invariant-loop-k g l = record {
  made : Made (lines_of (items (sample_at l.job l.scene l.row l.col) l.k)) (g.D.Desk.state l.initial.desk) (g.D.Desk.state l.desk);
  sums : l.sums ≡ sums_of (estimates (items (sample_at l.job l.scene l.row l.col) l.k));
  within : IsRgbWithin (l.k * 2 ^ 117) l.sums;
  summary : l.summary ≡ with_more (items (sample_at l.job l.scene l.row l.col) l.k) l.initial.summary;
  samples : l.summary.samples ≡ l.initial.summary.samples + l.k;
  sizes : l.summary.sizes ≤ 65536 * l.summary.samples;
  steps : l.steps ≡ l.initial.steps + evals_of (items (sample_at l.job l.scene l.row l.col) l.k);
  bench : l.bench ≡ l.initial.bench;
}
