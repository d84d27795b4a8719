use Rattle.std.proofs.Common.{rules}
use Rattle.lc_tool.proofs.Keeps.{short_counts}
use Rattle.lc_tool.proofs.Stopping.{absent_stops, long_stops, read_fault_stops, short_stops}
use Rattle.lc_tool.proofs.read.read_text.Goals as goal

pub returns-in-Err-Absent-clause-stopped : goal.returns-in-Err-Absent-clause-stopped
returns-in-Err-Absent-clause-stopped g c =
    let read = c.in-Err-Absent.ensures in
    absent_stops c.args.limit c.args.name.now _ _ _ read.same read.asked (read.absent (search rules)) (read.absent_told (search rules)) c.note_absent.ensures.noted c.note_absent.ensures.asked

pub returns-in-Err-Long-clause-stopped : goal.returns-in-Err-Long-clause-stopped
returns-in-Err-Long-clause-stopped g c =
    let read = c.in-Err-Long.ensures in
    long_stops c.args.limit c.args.name.now _ _ _ read.same read.asked (read.long (search rules)) (read.long_told (search rules)) c.note_long.ensures.noted c.note_long.ensures.asked

pub returns-in-Err-Failed-clause-stopped : goal.returns-in-Err-Failed-clause-stopped
returns-in-Err-Failed-clause-stopped g c =
    let read = c.in-Err-Failed.ensures in
    read_fault_stops c.args.limit c.args.name.now _ _ _ read.same read.asked (read.failed (search rules)) c.note_read_fault.ensures.noted c.note_read_fault.ensures.asked

pub returns-clause-stopped : goal.returns-clause-stopped
returns-clause-stopped g c =
    let read = c.in-Err-Memory.ensures in
    short_stops c.args.limit c.args.name.now _ _ _ read.same read.asked c.note_memory.ensures.noted c.note_memory.ensures.asked
    (short_counts _ _ _ (search rules) read.counted) c.note_memory.ensures.counts
