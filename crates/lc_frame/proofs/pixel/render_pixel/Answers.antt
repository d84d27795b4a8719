use Rattle.std.proofs.Common.{◌∙◌, ◌++◌, ap}
use Rattle.lc_frame.specs.Frames.{estimates}
use Rattle.lc_frame.specs.Parts.{pixel_answers}
use Rattle.lc_frame.proofs.PixelLemmas.{bytes_by_sums, estimates-length}
use Rattle.lc_frame.proofs.pixel.render_pixel.Goals as goal

pub returns-clause-bytes : goal.returns-clause-bytes
returns-clause-bytes g c =
    c.push_pixel.ensures.items
    ∙ ap (λ l. c.args.room.now.row.items ++ l)
    (bytes_by_sums c.args.job.now.white _ (estimates (pixel_answers c.args.job.now c.args.scene.now c.args.row c.args.col)) c.in_ok-sums.sums (estimates-length c.args.job.now c.args.scene.now c.args.row c.args.col) c.in_ok-sums.ensures.sums)
