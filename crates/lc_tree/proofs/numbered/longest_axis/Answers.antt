use Rattle.std.proofs.Common.{◌∙◌, sym}
use Rattle.lc_tree.proofs.Extents.{longest_is}
use Rattle.lc_tree.proofs.numbered.longest_axis.Goals as goal

pub returns : goal.returns
returns g c = c.longest.ensures ∙ sym (longest_is c.args.lights.now c.extents.result c.extents.ensures)
