use Rattle.std.proofs.Common.{arith}
use Rattle.lc_tree.proofs.NodeLaws.{kids_none, kids_room}
use Rattle.lc_tree.proofs.tree.Tree.kids.Goals as goal

pub overflow_mul-result : goal.overflow_mul-result
overflow_mul-result g c = omega (arith, kids_room g.K.Kind.meaning.valid_light g.K.Kind.meaning.one g.K.Kind.meaning.join c.args.self.now.lights c.args.node c.row.result.now _ c.row.ensures.row)

pub overflow_add-result-else-left-eq0 : goal.overflow_add-result-else-left-eq0
overflow_add-result-else-left-eq0 g c = omega (arith, kids_room g.K.Kind.meaning.valid_light g.K.Kind.meaning.one g.K.Kind.meaning.join c.args.self.now.lights c.args.node c.row.result.now _ c.row.ensures.row)

pub returns-then-left-eq0 : goal.returns-then-left-eq0
returns-then-left-eq0 g c = kids_none g.K.Kind.meaning.valid_light g.K.Kind.meaning.one g.K.Kind.meaning.join c.args.self.now.lights c.args.node c.row.result.now _ c.row.ensures.row c.if-left-eq0.true
