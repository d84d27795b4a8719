use Rattle.std.proofs.Common.{Ok, ap, sym}
use Rattle.lc_sample.specs.Scenes.{SceneParts}
use Rattle.lc_tool.specs.declared.world.World.{World}
use Rattle.lc_tool.specs.Course.{Course, at_once}
use Rattle.lc_tool.specs.Outcome.{world_by}
use Rattle.lc_tool.proofs.Parsing.{parse_short, parsed}
use Rattle.lc_tool.proofs.world.join_world.Goals as goal

pub returns-in-Ok-clause-went : goal.returns-in-Ok-clause-went
returns-in-Ok-clause-went g c =
    let world : SceneParts → Course World = λ scene. at_once (Ok (record { job = c.args.job; scene = scene })) in
    parsed (at_once (Ok (world_by c.args.job c.args.mesh c.args.materials.now.items c.args.lights))) _ _ (ap world (sym c.in-Ok.ensures.value))

pub returns-in-Err-clause-stopped : goal.returns-in-Err-clause-stopped
returns-in-Err-clause-stopped g c =
    parse_short (at_once (Ok (world_by c.args.job c.args.mesh c.args.materials.now.items c.args.lights))) _ _ c.note_memory.ensures.noted c.note_memory.ensures.asked c.note_memory.ensures.counts
