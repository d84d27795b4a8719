use Rattle.std.proofs.Common.{refl}
use Rattle.lc_rated.proofs.Refining.{IsRead, has_slot, has_kept, has_split, has_node, slot_within, kept_is, left_node, right_node, left_key, right_key, move_est, move_bound, next_length, next_cut}
use Rattle.lc_rated.proofs.refine.refine.Goals as goal

pub unreachable-requires-in_default-slot : goal.unreachable-requires-in_default-slot
unreachable-requires-in_default-slot g c =
    let read : IsRead (g.T.Lighting.keeps c.args.lighting.now) (g.T.Lighting.trees c.args.lighting.now) c.args.nodes.now c.in-Some.first c.kind_of-kind.result =
    record { limited = c.requires.limited; cut = c.requires.cut; some = c.requires.some; has = c.in-Some.ensures.0; first = c.in-Some.ensures.1; known = c.kind_of-kind.ensures } in
    has_slot read c.in_default-slot.ensures

pub unreachable-requires-in_default-kept : goal.unreachable-requires-in_default-kept
unreachable-requires-in_default-kept g c =
    let read : IsRead (g.T.Lighting.keeps c.args.lighting.now) (g.T.Lighting.trees c.args.lighting.now) c.args.nodes.now c.in-Some.first c.kind_of-kind.result =
    record { limited = c.requires.limited; cut = c.requires.cut; some = c.requires.some; has = c.in-Some.ensures.0; first = c.in-Some.ensures.1; known = c.kind_of-kind.ensures } in
    has_kept read c.in-Some-slot.ensures c.in_default-kept.ensures

pub split-requires-clause-node : goal.split-requires-clause-node
split-requires-clause-node g c =
    let read : IsRead (g.T.Lighting.keeps c.args.lighting.now) (g.T.Lighting.trees c.args.lighting.now) c.args.nodes.now c.in-Some.first c.kind_of-kind.result =
    record { limited = c.requires.limited; cut = c.requires.cut; some = c.requires.some; has = c.in-Some.ensures.0; first = c.in-Some.ensures.1; known = c.kind_of-kind.ensures } in
    has_node read

pub split-requires-clause-kept : goal.split-requires-clause-kept
split-requires-clause-kept g c =
    let read : IsRead (g.T.Lighting.keeps c.args.lighting.now) (g.T.Lighting.trees c.args.lighting.now) c.args.nodes.now c.in-Some.first c.kind_of-kind.result =
    record { limited = c.requires.limited; cut = c.requires.cut; some = c.requires.some; has = c.in-Some.ensures.0; first = c.in-Some.ensures.1; known = c.kind_of-kind.ensures } in
    kept_is read c.in-Some-slot.ensures c.in-Some-kept.ensures

pub unreachable-requires-in_default-split : goal.unreachable-requires-in_default-split
unreachable-requires-in_default-split g c =
    let read : IsRead (g.T.Lighting.keeps c.args.lighting.now) (g.T.Lighting.trees c.args.lighting.now) c.args.nodes.now c.in-Some.first c.kind_of-kind.result =
    record { limited = c.requires.limited; cut = c.requires.cut; some = c.requires.some; has = c.in-Some.ensures.0; first = c.in-Some.ensures.1; known = c.kind_of-kind.ensures } in
    has_split read c.in-Some-slot.ensures c.in-Some-kept.ensures c.in_default-split.ensures.split

pub replace-requires-clause-slot : goal.replace-requires-clause-slot
replace-requires-clause-slot g c =
    let read : IsRead (g.T.Lighting.keeps c.args.lighting.now) (g.T.Lighting.trees c.args.lighting.now) c.args.nodes.now c.in-Some.first c.kind_of-kind.result =
    record { limited = c.requires.limited; cut = c.requires.cut; some = c.requires.some; has = c.in-Some.ensures.0; first = c.in-Some.ensures.1; known = c.kind_of-kind.ensures } in
    slot_within read c.in-Some-slot.ensures c.in-Some-kept.ensures

pub replace-requires-clause-left : goal.replace-requires-clause-left
replace-requires-clause-left g c =
    let read : IsRead (g.T.Lighting.keeps c.args.lighting.now) (g.T.Lighting.trees c.args.lighting.now) c.args.nodes.now c.in-Some.first c.kind_of-kind.result =
    record { limited = c.requires.limited; cut = c.requires.cut; some = c.requires.some; has = c.in-Some.ensures.0; first = c.in-Some.ensures.1; known = c.kind_of-kind.ensures } in
    left_node read c.in-Some-slot.ensures c.in-Some-kept.ensures c.in-Some-split.split c.in-Some-split.ensures.split

pub replace-requires-clause-right : goal.replace-requires-clause-right
replace-requires-clause-right g c =
    let read : IsRead (g.T.Lighting.keeps c.args.lighting.now) (g.T.Lighting.trees c.args.lighting.now) c.args.nodes.now c.in-Some.first c.kind_of-kind.result =
    record { limited = c.requires.limited; cut = c.requires.cut; some = c.requires.some; has = c.in-Some.ensures.0; first = c.in-Some.ensures.1; known = c.kind_of-kind.ensures } in
    right_node read c.in-Some-slot.ensures c.in-Some-kept.ensures c.in-Some-split.split c.in-Some-split.ensures.split

pub replace-requires-clause-left_key : goal.replace-requires-clause-left_key
replace-requires-clause-left_key g c =
    let read : IsRead (g.T.Lighting.keeps c.args.lighting.now) (g.T.Lighting.trees c.args.lighting.now) c.args.nodes.now c.in-Some.first c.kind_of-kind.result =
    record { limited = c.requires.limited; cut = c.requires.cut; some = c.requires.some; has = c.in-Some.ensures.0; first = c.in-Some.ensures.1; known = c.kind_of-kind.ensures } in
    left_key read c.in-Some-slot.ensures c.in-Some-kept.ensures c.in-Some-split.split c.in-Some-split.ensures.split

pub replace-requires-clause-right_key : goal.replace-requires-clause-right_key
replace-requires-clause-right_key g c =
    let read : IsRead (g.T.Lighting.keeps c.args.lighting.now) (g.T.Lighting.trees c.args.lighting.now) c.args.nodes.now c.in-Some.first c.kind_of-kind.result =
    record { limited = c.requires.limited; cut = c.requires.cut; some = c.requires.some; has = c.in-Some.ensures.0; first = c.in-Some.ensures.1; known = c.kind_of-kind.ensures } in
    right_key read c.in-Some-slot.ensures c.in-Some-kept.ensures c.in-Some-split.split c.in-Some-split.ensures.split

pub replace-requires-clause-est : goal.replace-requires-clause-est
replace-requires-clause-est g c =
    let read : IsRead (g.T.Lighting.keeps c.args.lighting.now) (g.T.Lighting.trees c.args.lighting.now) c.args.nodes.now c.in-Some.first c.kind_of-kind.result =
    record { limited = c.requires.limited; cut = c.requires.cut; some = c.requires.some; has = c.in-Some.ensures.0; first = c.in-Some.ensures.1; known = c.kind_of-kind.ensures } in
    move_est read c.in-Some-slot.ensures c.in-Some-kept.ensures c.in-Some-split.split c.in-Some-split.ensures.split

pub replace-requires-clause-bound : goal.replace-requires-clause-bound
replace-requires-clause-bound g c =
    let read : IsRead (g.T.Lighting.keeps c.args.lighting.now) (g.T.Lighting.trees c.args.lighting.now) c.args.nodes.now c.in-Some.first c.kind_of-kind.result =
    record { limited = c.requires.limited; cut = c.requires.cut; some = c.requires.some; has = c.in-Some.ensures.0; first = c.in-Some.ensures.1; known = c.kind_of-kind.ensures } in
    move_bound read c.in-Some-slot.ensures c.in-Some-kept.ensures c.in-Some-split.split c.in-Some-split.ensures.split

pub returns-clause-cut : goal.returns-clause-cut
returns-clause-cut g c =
    let read : IsRead (g.T.Lighting.keeps c.args.lighting.now) (g.T.Lighting.trees c.args.lighting.now) c.args.nodes.now c.in-Some.first c.kind_of-kind.result =
    record { limited = c.requires.limited; cut = c.requires.cut; some = c.requires.some; has = c.in-Some.ensures.0; first = c.in-Some.ensures.1; known = c.kind_of-kind.ensures } in
    next_cut read c.in-Some-slot.ensures c.in-Some-kept.ensures c.in-Some-split.split c.in-Some-split.ensures.split refl refl c.replace.ensures

pub returns-clause-more : goal.returns-clause-more
returns-clause-more g c =
    let read : IsRead (g.T.Lighting.keeps c.args.lighting.now) (g.T.Lighting.trees c.args.lighting.now) c.args.nodes.now c.in-Some.first c.kind_of-kind.result =
    record { limited = c.requires.limited; cut = c.requires.cut; some = c.requires.some; has = c.in-Some.ensures.0; first = c.in-Some.ensures.1; known = c.kind_of-kind.ensures } in
    next_length read c.in-Some-slot.ensures c.in-Some-kept.ensures c.in-Some-split.split c.in-Some-split.ensures.split refl refl c.replace.ensures
