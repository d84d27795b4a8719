use Rattle.lc_tree.proofs.Cover.{row_clump}
use Rattle.lc_tree.proofs.tree.Tree.clump.Goals as goal

pub returns-clause-clump : goal.returns-clause-clump
returns-clause-clump g c = row_clump g.K.Kind.meaning g.met.K.Kind.laws c.args.self.now.lights c.args.node c.row.result.now _ c.row.ensures.row
