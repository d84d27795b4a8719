use Rattle.std.proofs.Common.{ℕ, [], ◌∷◌}
use Rattle.lc_desk.specs.Desk.{Files}
use Rattle.lc_desk.specs.declared.desk.Slot.TheVariants.{Report}
use Rattle.lc_record.specs.declared.reader.Record.{Record}
use Rattle.lc_tool.specs.declared.world.World.{World}
use Rattle.lc_tool.specs.Course.{Course}
use Rattle.lc_tool.specs.Outcome.{audited, record_of}
use Rattle.lc_tool.specs.Work.{Work}
use Rattle.lc_tool.proofs.Ending.{ends_next, ends_told}
use Rattle.lc_tool.proofs.Stopping.{stopped_first}
use Rattle.lc_tool.proofs.audit.audit_record.Goals as goal

abbrev next : ℕ → World → Files → Record → Course Work
next step world files kept = audited step world kept

pub returns-in-Ok : goal.returns-in-Ok
returns-in-Ok g c =
    let world = c.args.world.now in
    ends_next c.judge.result (Report ∷ []) (record_of world.job) (next c.args.step world) c.in-Ok.kept _ _ _ c.in-Ok.ensures.went
    (ends_told c.judge.result (Report ∷ []) (audited c.args.step world c.in-Ok.kept) _ _ _ c.judge.ensures)

pub returns-in-Err : goal.returns-in-Err
returns-in-Err g c = stopped_first c.in-Err.stop (record_of c.args.world.now.job) (next c.args.step c.args.world.now) _ _ _ c.in-Err.ensures.stopped
