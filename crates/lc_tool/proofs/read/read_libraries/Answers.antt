use Rattle.std.proofs.Common.{subst, sym}
use Rattle.std.proofs.lemmas.Result.{err_from_is_err_and}
use Rattle.lc_tool.proofs.Libraries.{ReadSome, read_all, read_none, read_one_more, read_stopped}
use Rattle.lc_tool.proofs.read.read_libraries.Goals as goal

pub loop-library-init : goal.loop-library-init
loop-library-init g c = record {
  went = subst (λ items. ReadSome c.args.scene.now c.args.libraries.now 0 items (g.D.Desk.state c.args.desk.now) (g.D.Desk.state c.args.desk.now)) (sym c.new-materials.ensures.none) (read_none c.args.scene.now c.args.libraries.now (g.D.Desk.state c.args.desk.now));
  valid = c.new-materials.ensures.valid;
}

pub loop-library-preserved : goal.loop-library-preserved
loop-library-preserved g c = record {
  went = read_one_more c.args.scene.now c.args.libraries.now c.loop-library.library-index c.library-item.result _ _ _ _ _ c.loop-library-test.true c.library-item.is c.loop-library.invariant.went
      (rw c.as_str.ensures at c.in_ok-read_library_beside.ensures.went);
  valid = c.in_ok-read_library_beside.ensures.valid;
}

pub returns-in_err-read_library_beside-clause-stopped : goal.returns-in_err-read_library_beside-clause-stopped
returns-in_err-read_library_beside-clause-stopped g c =
    let p = err_from_is_err_and c.from_residual.result c.from_residual.ensures.1 in
    rw (p.1, p.2)
    (read_stopped _ c.args.scene.now c.args.libraries.now c.loop-library.library-index c.library-item.result c.loop-library.materials.items _ _ _ c.loop-library-test.true c.library-item.is c.loop-library.invariant.went
    (rw c.as_str.ensures at c.in_err-read_library_beside.ensures.stopped))

pub returns-clause-went : goal.returns-clause-went
returns-clause-went g c = read_all c.args.scene.now c.args.libraries.now c.loop-library.library-index _ _ _ c.loop-library-test.false c.loop-library.invariant.went
