use Rattle.lc_tree.proofs.Cover.{row_weight}
use Rattle.lc_tree.proofs.tree.Tree.weight.Goals as goal

pub returns-clause-weight : goal.returns-clause-weight
returns-clause-weight g c = row_weight g.K.Kind.meaning c.args.self.now.lights c.args.node c.clump_weight.result c.row.result.now _ c.row.ensures.row c.clump_weight.ensures.value
