use Rattle.lc_frame.proofs.CallStops.{put_broke}
use Rattle.lc_frame.proofs.calls.put.Goals as goal

pub returns-in-Err-clause-broke : goal.returns-in-Err-clause-broke
returns-in-Err-clause-broke g c =
    rw c.stop_at.ensures (put_broke c.args.slot c.args.piece.now c.put.result c.in-Err.stop _ _ c.in-Err.is c.put.ensures.failed c.put.ensures.part c.put.ensures.memory c.put.ensures.kept c.put.ensures.asked c.put.ensures.same)
