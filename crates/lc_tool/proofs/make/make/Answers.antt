use Rattle.std.proofs.Common.{Ok, sym}
use Rattle.lc_make.specs.Made.{made_of}
use Rattle.lc_tool.specs.Course.{at_once}
use Rattle.lc_tool.specs.Outcome.{made_files, made_world, make_work}
use Rattle.lc_tool.proofs.Parsing.{ends_from, stopped_at}
use Rattle.lc_tool.proofs.make.make.Goals as goal

pub returns-in-Ok-made_world-clause-ends : goal.returns-in-Ok-made_world-clause-ends
returns-in-Ok-made_world-clause-ends g c =
    rw (sym c.number.view_is) (ends_from made_files (made_world (made_of c.number.inside.number)) (λ world. at_once (Ok (make_work c.number.inside.number world))) c.in-Ok-made_world.world _ _ _
    (rw c.in-Ok.ensures.value at c.in-Ok-made_world.ensures.went) c.write_made.result c.write_made.ensures.ends)

pub returns-clause-ends : goal.returns-clause-ends
returns-clause-ends g c =
    rw (sym c.number.view_is) (stopped_at c.in-Err.stop (made_world (made_of c.number.inside.number)) (λ world. at_once (Ok (make_work c.number.inside.number world))) _ _ (rw c.in-Ok.ensures.value at c.in-Err.ensures.stopped))
