use Rattle.lc_frame.specs.Files.{picture_file}
use Rattle.lc_record.specs.declared.reader.Record.{Record}
use Rattle.lc_desk.specs.Desk.{Files}
use Rattle.lc_tool.specs.Course.{Course, at_once}
use Rattle.lc_tool.specs.Outcome.{kept_of}
use Rattle.lc_tool.specs.Work.{Work}
use Rattle.lc_tool.proofs.Ending.{ends_last}
use Rattle.lc_tool.proofs.Stopping.{stopped_first}
use Rattle.std.proofs.Common.{Ok}
use Rattle.lc_map.specs.Meant.{meant}
use Rattle.lc_map.specs.Outcome.{map_work}
use Rattle.lc_map.specs.Words.{Order}
use Rattle.lc_map.proofs.program.map_record.Goals as goal

abbrev next : Order → Files → Record → Course Work
next order files kept = at_once (Ok (map_work order kept))

pub returns-in-Ok : goal.returns-in-Ok
returns-in-Ok g c =
    let order = meant c.args.order in
    ends_last c.write_map.result picture_file (kept_of order.source) (map_work order) c.in-Ok.kept _ _ _ c.in-Ok.ensures.went c.write_map.ensures

pub returns-in-Err : goal.returns-in-Err
returns-in-Err g c =
    let order = meant c.args.order in
    stopped_first c.in-Err.stop (kept_of order.source) (next order) _ _ _ c.in-Err.ensures.stopped
