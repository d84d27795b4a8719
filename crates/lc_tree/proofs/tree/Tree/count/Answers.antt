use Rattle.std.proofs.Common.{arith}
use Rattle.lc_tree.proofs.NodeLaws.{count_viewed}
use Rattle.lc_tree.proofs.Cover.{tree_viewed}
use Rattle.lc_tree.proofs.tree.Tree.count.Goals as goal

pub overflow_cast-result : goal.overflow_cast-result
overflow_cast-result g c =
    let counted = count_viewed g.K.Kind.meaning.valid_light g.K.Kind.meaning.one g.K.Kind.meaning.join c.self.inside.lights.items c.self.inside.rows.items c.args.self.now c.self.view_is c.self.invariant.0 in
    omega (arith, counted.0, counted.1, c.self.inside.rows.ok.0)

pub returns-clause-count : goal.returns-clause-count
returns-clause-count g c =
    let counted = count_viewed g.K.Kind.meaning.valid_light g.K.Kind.meaning.one g.K.Kind.meaning.join c.self.inside.lights.items c.self.inside.rows.items c.args.self.now c.self.view_is c.self.invariant.0 in
    omega (arith, counted.0, c.self.inside.rows.ok.0)

pub returns-clause-few : goal.returns-clause-few
returns-clause-few g c =
    let counted = count_viewed g.K.Kind.meaning.valid_light g.K.Kind.meaning.one g.K.Kind.meaning.join c.self.inside.lights.items c.self.inside.rows.items c.args.self.now c.self.view_is c.self.invariant.0 in
    omega (arith, counted.0, counted.1, c.self.inside.rows.ok.0)

pub returns-clause-tree : goal.returns-clause-tree
returns-clause-tree g c =
    tree_viewed g.K.Kind.meaning.valid_light g.K.Kind.meaning.one g.K.Kind.meaning.join c.self.inside.lights.items c.self.inside.rows.items c.args.self.now c.self.view_is c.self.invariant.0
