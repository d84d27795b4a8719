use Rattle.std.proofs.Common.{List, length, subst}
use Rattle.lc_hier.specs.declared.node.Row.{Row}
use Rattle.lc_hier.specs.Seen.{IsFirstAmong}
use Rattle.lc_hier.proofs.Answering.{first_answers}
use Rattle.lc_hier.proofs.queries.HierTriangles.nearest.Goals as goal

pub returns : goal.returns
returns c =
    first_answers c.args.e c.args.d c.self.inside.rows.items c.args.self.now c.self.invariant.numbered c.self.view_is c.nearest.result
    (subst (λ (rows : List Row). IsFirstAmong c.args.e c.args.d rows (length rows) c.nearest.result) c.deref-2.ensures.value c.nearest.ensures)
