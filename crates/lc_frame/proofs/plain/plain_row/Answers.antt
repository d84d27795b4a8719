use Rattle.std.proofs.Common.{◌∙◌, ap, arith}
use Rattle.lc_frame.specs.PlainFrames.{plain_bytes}
use Rattle.lc_frame.proofs.PlainLemmas.{pixel_more, whole_pixels}
use Rattle.lc_frame.proofs.plain.plain_row.Goals as goal

pub loop-col-preserved : goal.loop-col-preserved
loop-col-preserved c = record {
  bytes = pixel_more c.args.job.now c.args.scene.now c.args.row c.loop-col.col c.loop-col.bytes.items c.push_pixel.new.row.items c.plain_sums-sums.result c.loop-col.invariant.bytes c.plain_sums-sums.ensures c.push_pixel.ensures.items;
  len = omega (arith, c.push_pixel.ensures.len, c.loop-col.invariant.len);
  space = omega (arith, c.push_pixel.ensures.room, c.loop-col.invariant.space);
}

pub returns-clause-bytes : goal.returns-clause-bytes
returns-clause-bytes c = c.loop-col.invariant.bytes ∙ ap (plain_bytes c.args.job.now.white) (whole_pixels c.args.job.now c.args.scene.now c.args.row c.loop-col.col c.loop-col.auto.col-end c.loop-col-test.false)
