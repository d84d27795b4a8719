use Rattle.std.proofs.Common.{◌≡◌, max}
use Rattle.lc_map.proofs.Greatest.{sample-is}
use Rattle.lc_map.proofs.scale.sample_byte.Goals as goal

pub returns : goal.returns
returns c =
    let reached : c.max-2.result ≡ max c.byte_reached-red.result (max c.byte_reached-green.result c.byte_reached-blue.result) = cc in
    sample-is c.args.a.now c.byte_reached-red.result c.byte_reached-green.result c.byte_reached-blue.result c.max-2.result
    c.byte_reached-red.ensures c.byte_reached-green.ensures c.byte_reached-blue.ensures reached
