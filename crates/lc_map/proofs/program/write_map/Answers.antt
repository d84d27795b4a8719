use Rattle.lc_frame.specs.Files.{picture_file}
use Rattle.lc_tool.proofs.Ending.{broken_now, done_now}
use Rattle.lc_map.specs.Meant.{meant}
use Rattle.lc_map.specs.Outcome.{map_work}
use Rattle.lc_map.proofs.Written.{calls_on}
use Rattle.lc_map.proofs.program.write_map.Goals as goal

pub returns-in-Ok : goal.returns-in-Ok
unfolding map_work
returns-in-Ok g c =
    let order = meant c.args.order in
    done_now picture_file (map_work order c.args.kept.now) _ _ (calls_on order.kind c.args.kept.now order.picture) c.in-Ok.ensures.made

pub returns-in-Err : goal.returns-in-Err
unfolding map_work
returns-in-Err g c =
    let order = meant c.args.order in
    rw c.settle.ensures.status
    (broken_now c.in-Err.stop picture_file (map_work order c.args.kept.now) _ _ _ (calls_on order.kind c.args.kept.now order.picture) c.in-Err.ensures.stopped c.settle.ensures.noted c.settle.ensures.asked)
