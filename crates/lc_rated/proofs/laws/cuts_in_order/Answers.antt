use Rattle.lc_rated.proofs.CutOrder.{cut_in_order}
use Rattle.lc_rated.proofs.laws.cuts_in_order.Goals as goal

pub returns : goal.returns
returns c = cut_in_order
