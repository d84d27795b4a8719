use Rattle.lc_sample.proofs.SpotLemmas.{spot_is}
use Rattle.lc_sample.proofs.spot.spot_on.Goals as goal

pub returns-clause-value : goal.returns-clause-value
returns-clause-value c =
    spot_is c.args.ray c.args.depth c.args.surface.now c.off_surface-x.result c.facing-seen.result c.normal_at-n.result c.mirrored_view.result c.place_at.result
    c.facing-seen.ensures.value c.normal_at-n.ensures.value c.place_at.ensures.value c.off_surface-x.ensures.value c.mirrored_view.ensures.value
