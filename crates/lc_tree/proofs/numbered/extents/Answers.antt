use Rattle.std.proofs.Common.{◌≡◌, ℕ, ◌<◌, ◌≤◌, ◌-◌, length, take, drop, All, List, get_or, ap, ap₂, arith, subst, sym, ◌∙◌}
use Rattle.std.proofs.lemmas.Grind.{common_steps}
use Rattle.std.proofs.lemmas.List.Elements.{All-drop, All-get_or, All-take}
use Rattle.std.proofs.lemmas.List.{length-drop, take_all}
use Rattle.lc_num.specs.Vectors.{difference, Within}
use Rattle.lc_tree.specs.declared.numbered.Numbered.{Numbered}
use Rattle.lc_tree.specs.Extents.{AreExtents}
use Rattle.lc_tree.proofs.Extents.{folded_extents, greatest, least}
use Rattle.lc_tree.proofs.numbered.extents.Goals as goal

-- an item of a part of a list whose items are within a range
item_within : {L : Type 0} (m n k i : ℕ) (xs : List (Numbered L)) (e : Numbered L) → All (λ x. Within m x.place) xs → i < length (take k (drop n xs)) → e ≡ get_or (take k (drop n xs)) i e → Within m e.place
item_within {L} m n k i xs e all below is =
    let P = λ (x : Numbered L). Within m x.place in
    subst P (sym is) (All-get_or P (take k (drop n xs)) i e below (All-take P k (drop n xs) (All-drop P n xs all)))

pub loop-light-preserved : goal.loop-light-preserved
loop-light-preserved g c =
    let place : Within 50_000_000 c.light-item.result.place = item_within 50_000_000 1 (length c.args.lights.now - 1) c.loop-light.light-index c.args.lights.now c.light-item.result c.requires.places c.loop-light-test.true c.light-item.is in
    record {
      least = grind (arith, common_steps);
      most = grind (arith, common_steps);
      least_within = c.lesser-least.ensures.within 50_000_000 c.loop-light.invariant.least_within place;
      most_within = c.greater-most.ensures.within 50_000_000 c.loop-light.invariant.most_within place;
    }

-- all items but the first
rest : {A : Type 0} (xs : List A) (i : ℕ) → length (take (length xs - 1) (drop 1 xs)) ≤ i → take i (take (length xs - 1) (drop 1 xs)) ≡ drop 1 xs
rest xs i past = take_all i (take (length xs - 1) (drop 1 xs)) past ∙ take_all (length xs - 1) (drop 1 xs) (omega (arith, length-drop 1 xs))

pub returns : goal.returns
returns g c =
    let lights = c.args.lights.now in
    let first = get_or lights 0 c.index-lights-0.result in
    let all = rest lights c.loop-light.light-index c.loop-light-test.false in
    let most : c.loop-light.most ≡ greatest first.place (drop 1 lights) = c.loop-light.invariant.most ∙ ap (greatest first.place) all in
    let least_is : c.loop-light.least ≡ least first.place (drop 1 lights) = c.loop-light.invariant.least ∙ ap (least first.place) all in
    subst (AreExtents lights) (sym (c.difference.ensures.value ∙ ap₂ difference most least_is)) (folded_extents lights c.index-lights-0.result c.requires.some)
