use Rattle.std.proofs.Common.{arith}
use Rattle.lc_geom.proofs.triangle.unscaled_normal.Goals as goal

pub returns-clause-within : goal.returns-clause-within
returns-clause-within c =
    let ab = c.difference.ensures.within 50_000_000 50_000_000 c.requires.b c.requires.a in
    let ac = c.difference-2.ensures.within 50_000_000 50_000_000 c.requires.c c.requires.a in
    let w = c.cross.ensures.within 100_000_000 100_000_000 ab ac in
    record { x = omega (arith, w.x); y = omega (arith, w.y); z = omega (arith, w.z) }
