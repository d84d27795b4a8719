use Rattle.lc_frame.specs.Files.{picture_file}
use Rattle.lc_tool.specs.Outcome.{plain_work, world_of}
use Rattle.lc_tool.proofs.Ending.{ends_last}
use Rattle.lc_tool.proofs.plain.plain.Goals as goal

pub returns-in-Ok : goal.returns-in-Ok
returns-in-Ok g c = record { ends = ends_last c.write_picture.result picture_file (world_of c.args.name.now) plain_work c.in-Ok.world _ _ _ c.in-Ok.ensures.went c.write_picture.ensures.ends }
