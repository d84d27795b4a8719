use Rattle.std.proofs.Common.{◌≡◌, ◌++◌, ap, length, arith, ◌∙◌, refl, subst, sym}
use Rattle.lc_tree.proofs.NodeLaws.{count_of_kept}
use Rattle.lc_tree.specs.Rows.{read_rows, IsTreeIf}
use Rattle.lc_tree.proofs.Cover.{tree_viewed}
use Rattle.lc_tree.proofs.tree.Tree.build.Goals as goal

pub leaves_of-requires : goal.leaves_of-requires
leaves_of-requires g c =
    let m = g.K.Kind.meaning in
    let rows = c.in_ok-rows.rows.items in
    let counted = count_of_kept m.valid_light m.one m.join c.args.lights.now rows (read_rows c.args.lights.now rows) c.in_ok-rows.ensures.laid in
    omega (arith, ap length c.deref.ensures.value, counted.0, counted.1)

pub returns-clause-tree : goal.returns-clause-tree
returns-clause-tree g c =
    let m = g.K.Kind.meaning in
    let rows = c.in_ok-rows.rows.items in
    let held : c.extend_from_slice.new.self.items ≡ c.args.lights.now = c.in_ok-extend_from_slice.ensures.items ∙ ap (λ ls. ls ++ c.args.lights.now) c.new-held.ensures.items in
    subst (λ ls. IsTreeIf m.valid_light (record { lights = ls; root = read_rows ls rows })) (sym held)
    (tree_viewed m.valid_light m.one m.join c.args.lights.now rows (record { lights = c.args.lights.now; root = read_rows c.args.lights.now rows }) refl c.in_ok-rows.ensures.laid)
