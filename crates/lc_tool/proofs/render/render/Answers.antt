use Rattle.lc_frame.specs.Files.{files}
use Rattle.lc_tool.specs.Outcome.{render_work, world_of}
use Rattle.lc_tool.proofs.Ending.{ends_last}
use Rattle.lc_tool.proofs.render.render.Goals as goal

pub returns-in-Ok-clause-ends : goal.returns-in-Ok-clause-ends
returns-in-Ok-clause-ends g c = ends_last c.write_frame.result files (world_of c.args.name.now) render_work c.in-Ok.world _ _ _ c.in-Ok.ensures.went c.write_frame.ensures.ends
