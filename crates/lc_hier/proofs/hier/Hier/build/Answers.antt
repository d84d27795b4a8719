use Rattle.std.proofs.Common.{arith, ap, length, subst}
use Rattle.lc_hier.specs.Grown.{AreRows}
use Rattle.lc_hier.proofs.Making.{counted, list_made, moved_in_place, moved_right, rows_made, written_back}
use Rattle.lc_hier.proofs.hier.Hier.build.Goals as goal

pub nodes_of-requires : goal.nodes_of-requires
nodes_of-requires c =
    omega (arith, ap length c.deref_mut.ensures.value, counted c.args.list.now c.in_ok-items.items.items c.in_ok-items.ensures.numbers, c.requires.few)

pub rows_of-requires : goal.rows_of-requires
rows_of-requires c =
    let items = c.in_ok-items.items in
    moved_right c.args.list.now c.deref.result.now
    (moved_in_place c.args.list.now items.items c.deref_mut.result.now c.nodes_of.new.items c.deref.result.now items.len (omega (arith, items.ok.0)) c.in_ok-items.ensures.numbers c.in_ok-items.ensures.held c.deref_mut.ensures.value c.in_ok-nodes.ensures.permutation c.deref.ensures.value)

pub invariant_of-result : goal.invariant_of-result
invariant_of-result c =
    let items = c.in_ok-items.items in
    let moved = moved_in_place c.args.list.now items.items c.deref_mut.result.now c.nodes_of.new.items c.deref.result.now items.len (omega (arith, items.ok.0)) c.in_ok-items.ensures.numbers c.in_ok-items.ensures.held c.deref_mut.ensures.value c.in_ok-nodes.ensures.permutation c.deref.ensures.value in
    let whole = written_back items.items c.deref_mut.result.now c.nodes_of.new.items c.deref.result.now items.len (omega (arith, items.ok.0)) c.deref_mut.ensures.value c.in_ok-nodes.ensures.permutation c.deref.ensures.value in
    c.in_ok-nodes.ensures.hierarchy c.in_ok-rows.rows.items
    (subst (λ xs. AreRows xs c.in_ok-rows.rows.items) whole (rows_made c.args.list.now c.deref.result.now c.in_ok-rows.rows.items moved c.in_ok-rows.ensures c.requires.valid))

pub returns : goal.returns
returns c =
    let items = c.in_ok-items.items in
    list_made c.args.list.now c.deref.result.now c.in_ok-rows.rows.items
    (moved_in_place c.args.list.now items.items c.deref_mut.result.now c.nodes_of.new.items c.deref.result.now items.len (omega (arith, items.ok.0)) c.in_ok-items.ensures.numbers c.in_ok-items.ensures.held c.deref_mut.ensures.value c.in_ok-nodes.ensures.permutation c.deref.ensures.value)
    c.in_ok-rows.ensures
