use Rattle.std.proofs.Common.{rules, ◌≡◌}
use Rattle.std.specs.Int.{w64}
use Rattle.lc_algebra.proofs.Machine.{read}
use Rattle.lc_hier.proofs.SlabCode.{entry_read, exit_read, greatest_read, least_read}
use Rattle.lc_hier.proofs.Missing.{entered_of, left_of, passes_when_shut}
use Rattle.lc_hier.proofs.beam.Beam.misses.Goals as goal

pub returns : goal.returns
returns c =
    let box = c.args.bounds.now in
    let beam = c.args.self.now in
    let near : read w64 c.max-near.result ≡ entered_of beam box =
    greatest_read c.entry.result c.entry-2.result c.entry-3.result c.max.result c.max-near.result _ _ _
    (entry_read beam.x box.low.x box.high.x c.entry.result (search rules) (search rules) c.entry.ensures)
    (entry_read beam.y box.low.y box.high.y c.entry-2.result (search rules) (search rules) c.entry-2.ensures)
    (entry_read beam.z box.low.z box.high.z c.entry-3.result (search rules) (search rules) c.entry-3.ensures)
    (search rules) (search rules) (search rules) (search rules) (search rules)
    c.max.ensures.value c.max-near.ensures.value in
    let far : read w64 c.min-far.result ≡ left_of beam box =
    least_read c.exit.result c.exit-2.result c.exit-3.result c.min.result c.min-far.result _ _ _
    (exit_read beam.x box.low.x box.high.x c.exit.result (search rules) (search rules) c.exit.ensures)
    (exit_read beam.y box.low.y box.high.y c.exit-2.result (search rules) (search rules) c.exit-2.ensures)
    (exit_read beam.z box.low.z box.high.z c.exit-3.result (search rules) (search rules) c.exit-3.ensures)
    (search rules) (search rules) (search rules) (search rules) (search rules)
    c.min.ensures.value c.min-far.ensures.value in
    let last : read w64 beam.last ≡ beam.last = search rules in
    passes_when_shut beam box (read w64 c.max-near.result) (read w64 c.min-far.result) (read w64 beam.last) near far last
