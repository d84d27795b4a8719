use Rattle.lc_map.proofs.Shares.{share-shifted}
use Rattle.lc_map.proofs.scale.share_of.Goals as goal

pub returns : goal.returns
returns c = share-shifted c.args.byte c.requires
