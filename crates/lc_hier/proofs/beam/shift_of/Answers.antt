use Rattle.std.proofs.Common.{◌≤◌, arith}
use Rattle.lc_hier.proofs.BeamCode.{few_bits, way_small}
use Rattle.lc_hier.proofs.beam.shift_of.Goals as goal

pub returns : goal.returns
returns c =
    let x : c.abs_diff.result ≤ 370_100_000 = rw c.abs_diff.ensures (way_small c.args.p.x c.args.q.x c.requires.p.x c.requires.q.x) in
    let y : c.abs_diff-2.result ≤ 370_100_000 = rw c.abs_diff-2.ensures (way_small c.args.p.y c.args.q.y c.requires.p.y c.requires.q.y) in
    let z : c.abs_diff-3.result ≤ 370_100_000 = rw c.abs_diff-3.ensures (way_small c.args.p.z c.args.q.z c.requires.p.z c.requires.q.z) in
    few_bits c.max-2.result c.ilog2.result c.ilog2.ensures.power_le (omega (arith, c.max.ensures, c.max-longest.ensures, c.max-2.ensures))
