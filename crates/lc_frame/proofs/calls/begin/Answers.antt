use Rattle.lc_frame.proofs.CallStops.{begin_broke}
use Rattle.lc_frame.proofs.calls.begin.Goals as goal

pub returns-in-Err-clause-broke : goal.returns-in-Err-clause-broke
returns-in-Err-clause-broke g c =
    rw c.stop_at.ensures (begin_broke c.args.slot c.args.name.now c.begin.result c.in-Err.stop _ _ c.in-Err.is c.begin.ensures.kept c.begin.ensures.failed c.begin.ensures.memory c.begin.ensures.asked c.begin.ensures.same)
