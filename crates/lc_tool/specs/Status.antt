-- The numbers of the ways in which a run ends.
use Rattle.std.specs.Prelude.{ℕ}
use Rattle.lc_tool.specs.declared.status.Source.{Source}
use Rattle.lc_tool.specs.declared.status.Source.TheVariants as source
use Rattle.lc_tool.specs.declared.status.Stop.{Stop}
use Rattle.lc_tool.specs.declared.status.Stop.TheVariants as stop
use Rattle.lc_frame.specs.declared.stop.FrameStop.{FrameStop}
use Rattle.lc_frame.specs.declared.stop.FrameStop.TheVariants as frame
use Rattle.lc_tool.specs.declared.status.Status.{Status}
use Rattle.lc_tool.specs.declared.status.Status.TheVariants.{Done, Usage, Stopped, Unwritten}

-- which text is faulty
abbrev pub source_code : Source → ℕ
source_code source.Job = 3
source_code source.Scene = 4
source_code source.Library = 5
source_code source.Lights = 6
source_code source.Record = 12

abbrev pub stop_code : Stop → ℕ
stop_code stop.Memory = 1
stop_code (stop.Faulty text) = source_code text
stop_code stop.Absent = 7
stop_code stop.ReadFault = 8
stop_code stop.Long = 10
stop_code stop.Refuted = 11

abbrev pub write_code : FrameStop → ℕ
write_code frame.Memory = 1
write_code (frame.Write slot) = 9

abbrev pub code : Status → ℕ
code Done = 0
code Usage = 2
code (Stopped stop) = stop_code stop
code (Unwritten stop) = write_code stop
