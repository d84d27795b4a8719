-- Sums over the cuts of limited trees stay small.
use Rattle.std.proofs.Common.{◌≡◌, ℕ, ◌+◌, ◌*◌, ◌≤◌, ◌<◌, ◌^◌, arith, List, [], ◌∷◌, refl, lit<}
use Rattle.std.proofs.Math.Nat.{mul-le-mul_left}
use Rattle.lc_num.specs.declared.channels.Rgb.{Rgb}
use Rattle.lc_rated.specs.declared.kind.LightKind.{LightKind}
use Rattle.lc_rated.specs.LitTrees.{LitTree, lit_leaf, lit_fork, light_of, leaf_count, IsLimited, red, green, blue, Trees, EachTree, most_of_leaf}
use Rattle.lc_rated.specs.Cuts.{Placed, greatest_key, parts_of, roots_of, cut_at, est_sum, bound_sum, totals_of, leaf_sum, EachNode, AreLimited}
use Rattle.lc_rated.specs.Nodes.{IsSmall}
use Rattle.lc_rated.proofs.CutSums.{est-cons, bound-cons, leaf_sum-cons, leaf_sum-cut_at, each_cut_at, each_of_trees}

est_limited : (c : Rgb → ℕ) (most : ℕ) (t : LitTree) → IsLimited c most t → c (light_of t).est ≤ most * leaf_count t
est_limited c most (lit_leaf e) h = omega arith
est_limited c most (lit_fork r a b) h = h.0

abbrev pub IsNodeLimited : (Rgb → ℕ) → ℕ → Placed → Type 0
IsNodeLimited c most p = IsLimited c most p.tree

-- a channel that is nothing in black
abbrev pub IsChannel : (Rgb → ℕ) → Type 0
IsChannel c = (let black : Rgb = record { r = 0; g = 0; b = 0 } in c black) ≡ 0

bound_limited : (c : Rgb → ℕ) (most : ℕ) → IsChannel c → (t : LitTree) → IsLimited c most t → c (light_of t).bound ≤ most * leaf_count t
bound_limited c most none (lit_leaf e) h = omega (arith, none)
bound_limited c most none (lit_fork r a b) h = h.1

est_sum_limited : (c : Rgb → ℕ) (most : ℕ) (cut : List Placed) → EachNode (IsNodeLimited c most) cut → est_sum c cut ≤ most * leaf_sum cut
est_sum_limited c most [] h = omega arith
est_sum_limited c most (p ∷ ps) h =
    let more : most * (leaf_count p.tree + leaf_sum ps) ≡ most * leaf_count p.tree + most * leaf_sum ps = omega arith in
    rw (est-cons c p ps, leaf_sum-cons p ps, more) (omega (arith, est_limited c most p.tree h.0, est_sum_limited c most ps h.1))

bound_sum_limited : (c : Rgb → ℕ) (most : ℕ) → IsChannel c → (cut : List Placed) → EachNode (IsNodeLimited c most) cut → bound_sum c cut ≤ most * leaf_sum cut
bound_sum_limited c most none [] h = omega arith
bound_sum_limited c most none (p ∷ ps) h =
    let more : most * (leaf_count p.tree + leaf_sum ps) ≡ most * leaf_count p.tree + most * leaf_sum ps = omega arith in
    rw (bound-cons c p ps, leaf_sum-cons p ps, more) (omega (arith, bound_limited c most none p.tree h.0, bound_sum_limited c most none ps h.1))

limited_parts : (c : Rgb → ℕ) (most : ℕ) (kind : LightKind) (node : ℕ) (t : LitTree) → IsLimited c most t → EachNode (IsNodeLimited c most) (parts_of kind node t)
limited_parts c most kind node (lit_leaf e) h = (h, tt)
limited_parts c most kind node (lit_fork r a b) h = (h.2, (h.3, tt))

limited_at : (c : Rgb → ℕ) (most : ℕ) (trees : Trees) (k : ℕ) → EachTree (IsLimited c most) trees → EachNode (IsNodeLimited c most) (cut_at (roots_of trees) k)
limited_at c most trees k h =
    each_cut_at (IsNodeLimited c most) (λ p. limited_parts c most p.kind p.node p.tree) (roots_of trees) k (each_of_trees (IsLimited c most) trees h)

est_at : (c : Rgb → ℕ) (most leaves : ℕ) (trees : Trees) (k : ℕ) → EachTree (IsLimited c most) trees → leaf_sum (roots_of trees) ≤ leaves → est_sum c (cut_at (roots_of trees) k) ≤ most * leaves
est_at c most leaves trees k h few =
    let same : leaf_sum (cut_at (roots_of trees) k) ≡ leaf_sum (roots_of trees) = leaf_sum-cut_at (roots_of trees) k in
    let lt : leaf_sum (cut_at (roots_of trees) k) ≤ leaves = omega (arith, same, few) in
    omega (arith, est_sum_limited c most (cut_at (roots_of trees) k) (limited_at c most trees k h), mul-le-mul_left most lt)

bound_at : (c : Rgb → ℕ) (most leaves : ℕ) → IsChannel c → (trees : Trees) (k : ℕ) → EachTree (IsLimited c most) trees → leaf_sum (roots_of trees) ≤ leaves → bound_sum c (cut_at (roots_of trees) k) ≤ most * leaves
bound_at c most leaves none trees k h few =
    let same : leaf_sum (cut_at (roots_of trees) k) ≡ leaf_sum (roots_of trees) = leaf_sum-cut_at (roots_of trees) k in
    let lt : leaf_sum (cut_at (roots_of trees) k) ≤ leaves = omega (arith, same, few) in
    omega (arith, bound_sum_limited c most none (cut_at (roots_of trees) k) (limited_at c most trees k h), mul-le-mul_left most lt)

small : most_of_leaf * 65536 < 2 ^ 117
small = lit< tt

-- in a channel
pub est_small : (c : Rgb → ℕ) (trees : Trees) (k : ℕ) → EachTree (IsLimited c most_of_leaf) trees → leaf_sum (roots_of trees) ≤ 65536 → est_sum c (cut_at (roots_of trees) k) < 2 ^ 117
est_small c trees k h few = omega (arith, est_at c most_of_leaf 65536 trees k h few, small)

pub bound_small : (c : Rgb → ℕ) → IsChannel c → (trees : Trees) (k : ℕ) → EachTree (IsLimited c most_of_leaf) trees → leaf_sum (roots_of trees) ≤ 65536 → bound_sum c (cut_at (roots_of trees) k) < 2 ^ 117
bound_small c none trees k h few = omega (arith, bound_at c most_of_leaf 65536 none trees k h few, small)

-- the sums over each cut are small
pub totals_small : (trees : Trees) (k : ℕ) → AreLimited trees → IsSmall (totals_of (cut_at (roots_of trees) k))
totals_small trees k h = record {
  est_r = est_small red trees k h.red h.few;
  est_g = est_small green trees k h.green h.few;
  est_b = est_small blue trees k h.blue h.few;
  bound_r = bound_small red refl trees k h.red h.few;
  bound_g = bound_small green refl trees k h.green h.few;
  bound_b = bound_small blue refl trees k h.blue h.few;
}

-- no key is above the sum of all bounds
key_most : (cut : List Placed) → greatest_key cut ≤ bound_sum red cut + bound_sum green cut + bound_sum blue cut
key_most [] = omega arith
key_most (p ∷ ps) = omega (arith, bound-cons red p ps, bound-cons green p ps, bound-cons blue p ps, key_most ps)

pub key_small : (trees : Trees) (k : ℕ) → AreLimited trees → greatest_key (cut_at (roots_of trees) k) < 2 ^ 119
key_small trees k h =
    omega (arith, key_most (cut_at (roots_of trees) k), bound_small red refl trees k h.red h.few, bound_small green refl trees k h.green h.few, bound_small blue refl trees k h.blue h.few)
