-- The sums of cuts, and that over all lights, are below 2^117.
use Rattle.std.proofs.Common.{◌≡◌, ℕ, ◌+◌, ◌-◌, ◌*◌, ◌^◌, ◌<◌, ◌≤◌, List, [], ◌∷◌, subst, arith, lit<}
use Rattle.std.proofs.Math.Nat.{mul-le-mul_left}
use Rattle.lc_num.specs.Channels.{IsRgbWithin}
use Rattle.lc_num.specs.declared.channels.Rgb.{Rgb}
use Rattle.lc_num.specs.declared.rules.Rule.TheVariants as rule
use Rattle.lc_geom.specs.declared.triangle.Tri.{Tri}
use Rattle.lc_terms.specs.Spot.{IsSpot}
use Rattle.lc_terms.specs.declared.spot.Spot.{Spot}
use Rattle.lc_rated.specs.Nodes.{IsSmall}
use Rattle.lc_rated.specs.LitTrees.{LitTree, lit_leaf, lit_fork, full_of, leaf_count, IsLimited, EachTree, Trees, red, green, blue, most_of_leaf}
use Rattle.lc_rated.specs.Cuts.{Placed, AreLimited, EachNode, refinements, cut_at, roots_of, totals_of, full_sum, full_light, leaf_sum, answer}
use Rattle.lc_rated.proofs.CutSums.{full-cons, leaf_sum-cons, each_of_trees}
use Rattle.lc_rated.proofs.CutLimits.{IsNodeLimited, totals_small}
use Rattle.lc_cut.specs.Contribution.{plain}
use Rattle.lc_cut.specs.Forest.{ForestParts, IsForest, lights_of, trees_of}
use Rattle.lc_cut.proofs.Whole.{trees_limited, trees_full}

below : (n : ℕ) → n < 2 ^ 117 → n ≤ 2 ^ 117 - 1
below n h = omega arith

within : (r g b : ℕ) → r < 2 ^ 117 → g < 2 ^ 117 → b < 2 ^ 117 → IsRgbWithin (2 ^ 117 - 1) (record { r = r; g = g; b = b })
within r g b hr hg hb = record { r = below r hr; g = below g hg; b = below b hb }

pub est_within : (trees : Trees) (k : ℕ) → AreLimited trees → IsRgbWithin (2 ^ 117 - 1) (totals_of (cut_at (roots_of trees) k)).est
est_within trees k h =
    let small : IsSmall (totals_of (cut_at (roots_of trees) k)) = totals_small trees k h in within _ _ _ small.est_r small.est_g small.est_b

pub bound_within : (trees : Trees) (k : ℕ) → AreLimited trees → IsRgbWithin (2 ^ 117 - 1) (totals_of (cut_at (roots_of trees) k)).bound
bound_within trees k h =
    let small : IsSmall (totals_of (cut_at (roots_of trees) k)) = totals_small trees k h in within _ _ _ small.bound_r small.bound_g small.bound_b

-- the answer's cut is one of the sequence
pub answer_est_within : (size permille : ℕ) (trees : Trees) → AreLimited trees → IsRgbWithin (2 ^ 117 - 1) (answer size permille trees).est
answer_est_within size permille trees h = est_within trees (refinements size permille (roots_of trees)) h

pub answer_bound_within : (size permille : ℕ) (trees : Trees) → AreLimited trees → IsRgbWithin (2 ^ 117 - 1) (answer size permille trees).bound
answer_bound_within size permille trees h = bound_within trees (refinements size permille (roots_of trees)) h

-- ---- the estimates of all leaves

full_limited : (c : Rgb → ℕ) (most : ℕ) (t : LitTree) → IsLimited c most t → full_of c t ≤ most * leaf_count t
full_limited c most (lit_leaf e) h = omega arith
full_limited c most (lit_fork r a b) h =
    let more : most * (leaf_count a + leaf_count b) ≡ most * leaf_count a + most * leaf_count b = omega arith in
    rw more (omega (arith, full_limited c most a h.2, full_limited c most b h.3))

full_sum_limited : (c : Rgb → ℕ) (most : ℕ) (cut : List Placed) → EachNode (IsNodeLimited c most) cut → full_sum c cut ≤ most * leaf_sum cut
full_sum_limited c most [] h = omega arith
full_sum_limited c most (p ∷ ps) h =
    let more : most * (leaf_count p.tree + leaf_sum ps) ≡ most * leaf_count p.tree + most * leaf_sum ps = omega arith in
    rw (full-cons c p ps, leaf_sum-cons p ps, more) (omega (arith, full_limited c most p.tree h.0, full_sum_limited c most ps h.1))

full_at : (c : Rgb → ℕ) (most leaves : ℕ) (trees : Trees) → EachTree (IsLimited c most) trees → leaf_sum (roots_of trees) ≤ leaves → full_sum c (roots_of trees) ≤ most * leaves
full_at c most leaves trees h few =
    omega (arith, full_sum_limited c most (roots_of trees) (each_of_trees (IsLimited c most) trees h), mul-le-mul_left most few)

small_product : most_of_leaf * 65536 < 2 ^ 117
small_product = lit< tt

full_small : (c : Rgb → ℕ) (trees : Trees) → EachTree (IsLimited c most_of_leaf) trees → leaf_sum (roots_of trees) ≤ 65536 → full_sum c (roots_of trees) < 2 ^ 117
full_small c trees h few = omega (arith, full_at c most_of_leaf 65536 trees h few, small_product)

full_within : (trees : Trees) → AreLimited trees → IsRgbWithin (2 ^ 117 - 1) (full_light trees)
full_within trees h = within _ _ _ (full_small red trees h.red h.few) (full_small green trees h.green h.few) (full_small blue trees h.blue h.few)

-- and so the sum over all lights
pub plain_within : (ts : List Tri) (spot : Spot) (forest : ForestParts) → IsSpot spot → IsForest forest → IsRgbWithin (2 ^ 117 - 1) (plain ts spot (lights_of forest))
plain_within ts spot forest hs h =
    subst (IsRgbWithin (2 ^ 117 - 1)) (trees_full ts spot hs rule.One forest h) (full_within (trees_of ts spot rule.One forest) (trees_limited ts spot hs rule.One forest h))
