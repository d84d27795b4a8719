use Rattle.std.proofs.Common.{ℕ, [], ◌∷◌}
use Rattle.lc_desk.specs.Desk.{Files}
use Rattle.lc_desk.specs.declared.desk.Slot.TheVariants.{Report}
use Rattle.lc_tool.specs.declared.world.World.{World}
use Rattle.lc_tool.specs.Course.{Course}
use Rattle.lc_tool.specs.Outcome.{audit_world, world_of}
use Rattle.lc_tool.specs.Work.{Work}
use Rattle.lc_tool.proofs.Ending.{ends_next}
use Rattle.lc_tool.proofs.Stopping.{stopped_first}
use Rattle.lc_tool.proofs.audit.audit.Goals as goal

abbrev next : ℕ → Files → World → Course Work
next step files world = audit_world step world files

pub returns-in-Ok : goal.returns-in-Ok
returns-in-Ok g c = record {
  ends = ends_next c.audit_record.result (Report ∷ []) (world_of c.args.name.now) (next c.args.step) c.in-Ok.world _ _ _ c.in-Ok.ensures.went c.audit_record.ensures;
}

pub returns-in-Err : goal.returns-in-Err
returns-in-Err g c = record { ends = stopped_first c.in-Err.stop (world_of c.args.name.now) (next c.args.step) _ _ _ c.in-Err.ensures.stopped }
