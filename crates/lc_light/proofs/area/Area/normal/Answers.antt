use Rattle.std.proofs.Common.{◌∙◌, ap}
use Rattle.lc_num.specs.declared.vectors.Vec3.{Vec3}
use Rattle.lc_num.specs.Cosines.{scaled}
use Rattle.lc_light.specs.Areas.{normal}
use Rattle.lc_light.proofs.AreaLemmas.{cross_fits, side_short}
use Rattle.lc_light.proofs.area.Area.normal.Goals as goal

pub scaled-requires-clause-v : goal.scaled-requires-clause-v
scaled-requires-clause-v c =
    let area = c.args.self.now in
    cross_fits c.cross.result
    (c.cross.ensures.within 100_000_000 100_000_000 (side_short area.corner area.along c.requires.corner c.requires.along_end) (side_short area.corner area.across c.requires.corner c.requires.across_end))

pub returns : goal.returns
unfolding normal
returns c = c.scaled.ensures.value ∙ ap (λ (v : Vec3). scaled v 16384) c.cross.ensures.value
