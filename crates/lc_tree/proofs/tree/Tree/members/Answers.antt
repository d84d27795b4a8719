use Rattle.std.proofs.Common.{◌≡◌, ℕ, ◌+◌, ◌-◌, List, length, take, drop, ap, ◌∙◌, arith}
use Rattle.lc_tree.specs.Node.{node_of}
use Rattle.lc_tree.proofs.Listing.{part_viewed, part_within, part_is}
use Rattle.lc_tree.proofs.NodeLaws.{count_viewed}
use Rattle.lc_tree.proofs.tree.Tree.members.Goals as goal

pub index-requires : goal.index-requires
index-requires g c =
    let m = g.K.Kind.meaning in
    let counted = count_viewed m.valid_light m.one m.join c.self.inside.lights.items c.self.inside.rows.items c.args.self.now c.self.view_is c.self.invariant.0 in
    omega (arith, counted.0, c.self.invariant.1.each, c.self.inside.leaves.firsts.ok.0)

pub slice_bounds-result-end : goal.slice_bounds-result-end
slice_bounds-result-end g c =
    let m = g.K.Kind.meaning in
    let inside = c.self.inside in
    let order = inside.leaves.order.items in
    let first = c.index.result.now in
    let count = c.row.result.now.count in
    let part =
    part_viewed m.one m.join m.valid_light inside.lights.items inside.rows.items order inside.leaves.firsts.items c.args.self.now c.self.view_is c.self.invariant.0 c.self.invariant.1
    c.args.node first c.row.result.now c.index.ensures c.requires c.row.ensures.row in
    let within = part_within (node_of c.args.self.now.root c.args.node) order first count part in
    omega (arith, within, ap length c.deref.ensures.value)

pub returns : goal.returns
returns g c =
    let m = g.K.Kind.meaning in
    let inside = c.self.inside in
    let order = inside.leaves.order.items in
    let first = c.index.result.now in
    let count = c.row.result.now.count in
    let part =
    part_viewed m.one m.join m.valid_light inside.lights.items inside.rows.items order inside.leaves.firsts.items c.args.self.now c.self.view_is c.self.invariant.0 c.self.invariant.1
    c.args.node first c.row.result.now c.index.ensures c.requires c.row.ensures.row in
    let long : (first + count) - first ≡ count = omega arith in
    part_is (node_of c.args.self.now.root c.args.node) order first count (take ((first + count) - first) (drop first c.deref.result.now))
    (ap (λ k. take k (drop first c.deref.result.now)) long ∙ ap (λ (l : List ℕ). take count (drop first l)) c.deref.ensures.value) part
