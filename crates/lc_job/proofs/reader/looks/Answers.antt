use Rattle.std.proofs.Common.{arith}
use Rattle.lc_job.proofs.reader.looks.Goals as goal

pub square-requires : goal.square-requires
square-requires c =
    let way = c.difference.ensures.within 50_000_000 50_000_000 c.requires.at c.requires.eye in
    let area = c.cross.ensures.within 100_000_000 50_000_000 way c.requires.up in
    record { x = omega (arith, area.x); y = omega (arith, area.y); z = omega (arith, area.z) }
