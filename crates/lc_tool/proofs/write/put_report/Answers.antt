use Rattle.std.proofs.Common.{rules}
use Rattle.lc_desk.specs.declared.desk.Slot.TheVariants.{Report}
use Rattle.lc_desk.proofs.CallLemmas.{broke_put_short}
use Rattle.lc_tool.proofs.Ending.{report_broke}
use Rattle.lc_tool.proofs.write.put_report.Goals as goal

pub returns-in-Err-Failed-clause-broke : goal.returns-in-Err-Failed-clause-broke
returns-in-Err-Failed-clause-broke g c =
    let put = c.in-Err-Failed.ensures in
    report_broke c.args.line.now _ _ put.same put.asked (put.part (search rules)) (put.failed (search rules))

pub returns-in-Err-Memory-clause-broke : goal.returns-in-Err-Memory-clause-broke
returns-in-Err-Memory-clause-broke g c =
    let put = c.in-Err-Memory.ensures in
    broke_put_short Report c.args.line.now _ _ (put.kept (search rules)) (put.memory (search rules)) put.asked put.same
