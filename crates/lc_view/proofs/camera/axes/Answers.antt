use Rattle.std.proofs.Common.{◌*◌, ◌^◌, arith}
use Rattle.lc_view.proofs.RayLemmas.{within_more}
use Rattle.lc_view.proofs.camera.axes.Goals as goal

pub scaled-right-requires-clause-v : goal.scaled-right-requires-clause-v
scaled-right-requires-clause-v c =
    let way = c.difference-way.ensures.within 50_000_000 50_000_000 c.requires.at c.requires.eye in
    within_more (2 * (100_000_000 * 50_000_000)) (2 ^ 60) c.cross.result (omega arith) (c.cross.ensures.within 100_000_000 50_000_000 way c.requires.up)

pub scaled-up-requires-clause-v : goal.scaled-up-requires-clause-v
scaled-up-requires-clause-v c =
    within_more (2 * (16384 * 16384)) (2 ^ 60) c.cross-2.result (omega arith) (c.cross-2.ensures.within 16384 16384 c.scaled-right.ensures.within c.scaled-forward.ensures.within)
