use Rattle.lc_frame.specs.Files.{picture_file}
use Rattle.lc_frame.specs.PlainFrames.{plain_lights}
use Rattle.lc_tool.specs.Outcome.{plain_work}
use Rattle.lc_tool.proofs.Ending.{done_now, broken_now}
use Rattle.lc_frame.proofs.PlainFileLemmas.{calls_on}
use Rattle.lc_tool.proofs.plain.write_picture.Goals as goal

pub returns-in-Ok : goal.returns-in-Ok
unfolding plain_work
returns-in-Ok g c =
    let world = c.args.world.now in
    record { ends = done_now picture_file (plain_work world) _ _ (calls_on world.job (plain_lights world.job world.scene)) c.in-Ok.ensures.made }

pub returns-in-Err : goal.returns-in-Err
unfolding plain_work
returns-in-Err g c =
    let world = c.args.world.now in
    record {
      ends = rw c.settle.ensures.status
          (broken_now c.in-Err.stop picture_file (plain_work world) _ _ _ (calls_on world.job (plain_lights world.job world.scene)) c.in-Err.ensures.stopped c.settle.ensures.noted c.settle.ensures.asked);
    }
