use Rattle.std.proofs.Common.{arith}
use Rattle.lc_tree.proofs.NodeLaws.{row_viewed, count_viewed}
use Rattle.lc_tree.proofs.Cover.{row_valid}
use Rattle.lc_tree.proofs.tree.Tree.row.Goals as goal

pub index-requires : goal.index-requires
index-requires g c =
    let counted = count_viewed g.K.Kind.meaning.valid_light g.K.Kind.meaning.one g.K.Kind.meaning.join c.self.inside.lights.items c.self.inside.rows.items c.args.self.now c.self.view_is c.self.invariant.0 in
    omega (arith, counted.0, c.self.inside.rows.ok.0)

pub returns-clause-row : goal.returns-clause-row
returns-clause-row g c = row_viewed g.K.Kind.meaning.valid_light g.K.Kind.meaning.one g.K.Kind.meaning.join c.self.inside.lights.items c.self.inside.rows.items c.args.self.now c.self.view_is c.self.invariant.0 c.args.node c.index.result.now c.index.ensures c.requires

pub returns-clause-valid : goal.returns-clause-valid
returns-clause-valid g c =
    row_valid g.K.Kind.meaning g.met.K.Kind.laws c.args.self.now.lights c.args.node c.index.result.now _ (row_viewed g.K.Kind.meaning.valid_light g.K.Kind.meaning.one g.K.Kind.meaning.join c.self.inside.lights.items c.self.inside.rows.items c.args.self.now c.self.view_is c.self.invariant.0 c.args.node c.index.result.now c.index.ensures c.requires)
