use Rattle.std.proofs.Common.{◌≡◌, ◌∙◌, subst, arith}
use Rattle.std.proofs.lemmas.Result.{err_from_is_err_and}
use Rattle.lc_desk.specs.Calls.{Made}
use Rattle.lc_desk.specs.declared.desk.Slot.TheVariants.{Picture}
use Rattle.lc_desk.proofs.CallLemmas.{open_made}
use Rattle.lc_frame.proofs.LoopLemmas.{firsts}
use Rattle.lc_map.specs.Map.{row_bytes}
use Rattle.lc_map.specs.Outcome.{row_put}
use Rattle.lc_map.proofs.Written.{row_more, row_refused}
use Rattle.lc_map.proofs.rows.map_all.Goals as goal

pub put-requires : goal.put-requires
put-requires g c = open_made _ Picture _ _ c.loop-row.invariant.made c.requires.begun

pub loop-row-preserved : goal.loop-row-preserved
loop-row-preserved g c = record {
  made = row_more c.args.kind c.args.kept.now c.loop-row.row _ (c.deref.ensures.value ∙ c.map_row.ensures.bytes) _ _ _ c.loop-row.invariant.made c.in_ok-put.ensures.made;
  space = omega (arith, c.map_row.ensures.space, c.loop-row.invariant.space);
}

pub returns-clause-made : goal.returns-clause-made
returns-clause-made g c =
    let end : c.loop-row.row ≡ c.args.kept.now.header.height = omega (arith, c.loop-row.auto.row-end, c.loop-row-test.false) in
    subst (λ n. Made (firsts (row_put c.args.kind c.args.kept.now) n) (g.D.Desk.state c.args.desk.now) (g.D.Desk.state c.loop-row.desk)) end c.loop-row.invariant.made

pub returns-in_err-put-clause-broke : goal.returns-in_err-put-clause-broke
returns-in_err-put-clause-broke g c =
    let is : c.deref.result.now ≡ row_bytes c.args.kind c.args.kept.now c.loop-row.row = c.deref.ensures.value ∙ c.map_row.ensures.bytes in
    let p = err_from_is_err_and c.from_residual.result c.from_residual.ensures.1 in
    rw (p.1, p.2) (row_refused c.args.kind c.args.kept.now c.loop-row.row _ is _ _ _ c.loop-row.invariant.made _ c.loop-row-test.true c.in_err-put.ensures.broke)
