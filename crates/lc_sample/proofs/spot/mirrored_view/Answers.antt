use Rattle.std.proofs.Common.{◌^◌, arith}
use Rattle.lc_sample.proofs.SpotLemmas.{within_more}
use Rattle.lc_sample.proofs.spot.mirrored_view.Goals as goal

pub scaled-view-requires-clause-v : goal.scaled-view-requires-clause-v
scaled-view-requires-clause-v c =
    within_more 100_200_000 (2 ^ 60) c.difference.result (omega arith) (c.difference.ensures.within 50_100_000 50_100_000 c.requires.eye c.requires.place)
