use Rattle.std.proofs.Common.{◌≡◌, ◌++◌, ◌∙◌, ap, arith, sym}
use Rattle.lc_frame.proofs.LoopLemmas.{firsts, firsts-more}
use Rattle.lc_map.specs.Map.{byte_of, grey, pixel_bytes, row_bytes}
use Rattle.lc_map.proofs.rows.map_row.Goals as goal

pub loop-col-preserved : goal.loop-col-preserved
unfolding pixel_bytes
loop-col-preserved c =
    let kept = c.args.kept.now in
    let pixels = pixel_bytes c.args.kind kept c.args.row in
    let byte = c.byte_of-byte.ensures ∙ ap (byte_of c.args.kind kept.header) c.samples_at.ensures.value in
    let pixel : grey c.byte_of-byte.result ≡ pixels c.loop-col.col = ap grey byte in
    record {
      bytes = c.push_grey.ensures.items ∙ ap (λ l. l ++ grey c.byte_of-byte.result) c.loop-col.invariant.bytes
          ∙ ap (λ l. firsts pixels c.loop-col.col ++ l) pixel ∙ sym (firsts-more pixels c.loop-col.col);
      len = omega (arith, c.push_grey.ensures.len, c.loop-col.invariant.len);
      space = omega (arith, c.push_grey.ensures.room, c.loop-col.invariant.space);
    }

pub returns-clause-bytes : goal.returns-clause-bytes
unfolding row_bytes
returns-clause-bytes c =
    let end : c.loop-col.col ≡ c.args.kept.now.header.width = omega (arith, c.loop-col.auto.col-end, c.loop-col-test.false) in
    c.loop-col.invariant.bytes ∙ ap (firsts (pixel_bytes c.args.kind c.args.kept.now c.args.row)) end
