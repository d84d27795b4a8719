use Rattle.std.proofs.Common.{◌≡◌, ◌+◌, arith, refl, length, vec_len}
use Rattle.std.proofs.lemmas.List.Sorted.{length_permutation}
use Rattle.lc_hier.proofs.Growing.{each_of_leaf, grown_leaf, grown_parts, held_back, held_front, kept_parts, moved_parts, root_starts}
use Rattle.lc_hier.proofs.build.+grow.Goals as goal

pub returns-then-items-le-LEAF-clause-grown : goal.returns-then-items-le-LEAF-clause-grown
returns-then-items-le-LEAF-clause-grown t c =
    let nodes_len : vec_len c.args.nodes.now ≡ length c.args.nodes.now.items = omega (arith, c.args.nodes.now.ok.0) in
    λ rows held.
    grown_leaf c.args.nodes.now.items c.push.new.self.items rows (vec_len c.args.nodes.now) (c.len-at.result + 1) c.args.start c.args.items.now c.joined-bounds.result nodes_len (omega (arith, c.len-at.ensures))
    c.in_ok-push.ensures.items
    (each_of_leaf c.args.items.now _ _ c.joined-bounds.result c.if-items-le-LEAF.true c.joined-bounds.ensures.first c.joined-bounds.ensures.second)
    held

pub returns-clause-permutation : goal.returns-clause-permutation
returns-clause-permutation t c =
    moved_parts c.args.items.now c.divide-count.new.items c.split_at_mut-left.result.0.now c.split_at_mut-left.result.1.now c.grow.new.items c.grow-2.new.items
    c.divide-count.ensures.permutation c.split_at_mut-left.ensures.value c.in_ok-a.ensures.permutation c.in_ok-b.ensures.permutation

pub returns-clause-kept : goal.returns-clause-kept
returns-clause-kept t c =
    kept_parts c.args.nodes.now.items c.push.new.self.items c.grow.new.nodes.items c.grow-2.new.nodes.items _ _ (vec_len c.args.nodes.now) (vec_len c.push.new.self) (vec_len c.grow.new.nodes) c.len-at.result
    (omega (arith, c.args.nodes.now.ok.0)) (omega (arith, c.len-at.ensures)) (omega (arith, c.in_ok-push.ensures.len)) (omega (arith, c.in_ok-push.ensures.len, c.in_ok-a.ensures.more))
    c.in_ok-push.ensures.items c.in_ok-a.ensures.kept c.in_ok-b.ensures.kept

pub returns-clause-starts : goal.returns-clause-starts
returns-clause-starts t c =
    root_starts c.grow-2.new.nodes.items c.len-at.result (vec_len c.args.nodes.now) (c.args.start + length c.args.items.now) c.args.start _ c.len-at.ensures
    (omega (arith, c.len-at.ensures, c.in_ok-push.ensures.len, c.in_ok-a.ensures.more, c.in_ok-b.ensures.more, c.grow-2.new.nodes.ok.0)) refl

pub returns-clause-grown : goal.returns-clause-grown
returns-clause-grown t c =
    let moved = length_permutation c.args.items.now c.divide-count.new.items c.divide-count.ensures.permutation in
    let front = c.split_at_mut-left.ensures.front_len in
    let back = c.split_at_mut-left.ensures.back_len in
    let left = length_permutation c.split_at_mut-left.result.0.now c.grow.new.items c.in_ok-a.ensures.permutation in
    λ rows held.
    grown_parts c.grow.new.nodes.items c.grow-2.new.nodes.items rows c.len-at.result (vec_len c.args.nodes.now) (vec_len c.push.new.self) (vec_len c.grow.new.nodes) c.len.result c.args.start c.divide-count.result
    (length c.split_at_mut-left.result.0.now) (length c.split_at_mut-left.result.1.now) (length c.args.items.now) c.in_ok-a.a c.in_ok-b.b c.joined-bounds-2.result
    c.len-at.ensures
    (omega (arith, c.in_ok-push.ensures.len, c.len-at.ensures))
    (omega (arith, c.grow.new.nodes.ok.0))
    (omega (arith, c.len.ensures, c.grow-2.new.nodes.ok.0))
    front
    (omega (arith, front, back, moved))
    c.in_ok-a.ensures.more
    (omega (arith, c.len.ensures, c.in_ok-b.ensures.more))
    c.in_ok-b.ensures.kept
    c.in_ok-a.ensures.starts
    c.in_ok-b.ensures.starts
    c.joined-bounds-2.ensures.first
    c.joined-bounds-2.ensures.second
    (c.in_ok-a.ensures.grown rows (held_front c.grow.new.items c.grow-2.new.items rows c.args.start held))
    (c.in_ok-b.ensures.grown rows (held_back c.grow.new.items c.grow-2.new.items rows c.args.start (c.args.start + c.divide-count.result) (omega (arith, front, left)) held))
