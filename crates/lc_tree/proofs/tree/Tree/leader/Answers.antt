use Rattle.lc_tree.proofs.Cover.{row_leader, row_below, row_led}
use Rattle.lc_tree.proofs.tree.Tree.leader.Goals as goal

pub returns-clause-leader : goal.returns-clause-leader
returns-clause-leader g c = row_leader g.K.Kind.meaning c.args.self.now.lights c.args.node c.row.result.now _ c.row.ensures.row

pub returns-clause-below : goal.returns-clause-below
returns-clause-below g c = row_below g.K.Kind.meaning c.args.self.now.lights c.args.node c.row.result.now _ c.row.ensures.row

pub returns-clause-led : goal.returns-clause-led
returns-clause-led g c = row_led g.K.Kind.meaning c.args.self.now.lights c.args.node c.row.result.now _ c.row.ensures.row
