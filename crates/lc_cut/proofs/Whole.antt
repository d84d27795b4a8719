-- The lit trees of a forest: within their bounds, limited, and with the sum over all lights as their full sum.
use Rattle.std.proofs.Common.{◌≡◌, ℕ, ◌+◌, ◌≤◌, List, [], length, Option, None, Some, sum_by, refl, subst, arith, MatchOption}
use Rattle.std.specs.Prelude.{IfSome}
use Rattle.lc_num.specs.declared.channels.Rgb.{Rgb}
use Rattle.lc_num.specs.declared.channels.Power.{Power}
use Rattle.lc_num.specs.declared.rules.Rule.{Rule}
use Rattle.lc_geom.specs.declared.triangle.Tri.{Tri}
use Rattle.lc_terms.specs.Kind.{Meaning, Laws}
use Rattle.lc_terms.specs.Spot.{IsSpot}
use Rattle.lc_terms.specs.declared.spot.Spot.{Spot}
use Rattle.lc_bound.specs.Omni.{omni_meaning}
use Rattle.lc_bound.specs.OmniLaws.{omni_laws}
use Rattle.lc_bound.specs.Oriented.{oriented_meaning}
use Rattle.lc_bound.specs.OrientedLaws.{oriented_laws}
use Rattle.lc_bound.specs.Sun.{sun_meaning}
use Rattle.lc_bound.specs.SunLaws.{sun_laws}
use Rattle.lc_tree.specs.Node.{Node, leaf_count}
use Rattle.lc_tree.specs.Rows.{IsTree}
use Rattle.lc_tree.proofs.NodeLaws.{leaf_for_each}
use Rattle.lc_tree.proofs.Members.{sum_members}
use Rattle.lc_rated.specs.LitTrees.{full_of, EachTree, AreBounded, IsBounded, IsLimited, red, green, blue, most_of_leaf}
use Rattle.lc_rated.specs.LitTrees as lits
use Rattle.lc_rated.specs.Cuts.{AreLimited, IsNear, answer, roots_of, leaf_sum, full_sum, full_light}
use Rattle.lc_rated.proofs.CutSums.{count_of, tree_sum-roots_of}
use Rattle.lc_rated.proofs.CutSequence.{near}
use Rattle.lc_cut.specs.Contribution.{contribution, plain}
use Rattle.lc_cut.specs.Lit.{lit_root}
use Rattle.lc_cut.specs.Forest.{ForestParts, IsForest, lights_of, trees_of}
use Rattle.lc_cut.proofs.LitLaws.{IsChannel, red_channel, green_channel, blue_channel, lit_bounded, lit_limited, leaves_lit, full_members}

-- one tree of any kind
module _ {L C : Type 0} (m : Meaning L C) (laws : Laws m) (ts : List Tri) (spot : Spot) (hs : IsSpot spot) (r : Rule) (lights : List L) where
  abbrev IsTreeOf : Option (Node L) → Type 0
  IsTreeOf root = MatchOption root (lights ≡ []) (λ t. IsTree m.valid_light lights t)

  few_leaves : (t : Node L) → IsTree m.valid_light lights t → leaf_count t ≤ 65536
  few_leaves t h = omega (arith, leaf_for_each m.valid_light lights t h, h.few)

  bounded : (c : Rgb → ℕ) (w : Power → ℕ) → IsChannel c w → (root : Option (Node L)) → IsTreeOf root → IfSome (lit_root m ts spot r root) (IsBounded c)
  bounded c w ch None h = tt
  bounded c w ch (Some t) h = lit_bounded c w ch m ts spot laws hs lights h.valid_lights r t h.numbered h.led (few_leaves t h)

  limited : (c : Rgb → ℕ) (w : Power → ℕ) → IsChannel c w → (root : Option (Node L)) → IsTreeOf root → IfSome (lit_root m ts spot r root) (IsLimited c most_of_leaf)
  limited c w ch None h = tt
  limited c w ch (Some t) h = lit_limited c w ch m ts spot laws hs lights h.valid_lights r t h.numbered h.led (few_leaves t h)

  -- there is a leaf for each light
  leaves : (root : Option (Node L)) → IsTreeOf root → count_of lits.leaf_count (lit_root m ts spot r root) ≡ length lights
  leaves None h = rw h refl
  leaves (Some t) h = omega (arith, leaves_lit m ts spot r t, leaf_for_each m.valid_light lights t h)

  -- the full sum is that over the lights
  full : (c : Rgb → ℕ) (root : Option (Node L)) → IsTreeOf root → count_of (full_of c) (lit_root m ts spot r root) ≡ sum_by (λ l. c (contribution m ts spot l)) lights
  full c None h = rw h refl
  full c (Some t) h = omega (arith, full_members c m ts spot r t, sum_members (λ l. c (contribution m ts spot l)) m.valid_light lights t h)

same_rgb : (r g b r' g' b' : ℕ) → r ≡ r' → g ≡ g' → b ≡ b' → ◌≡◌ {A = Rgb} (record { r = r; g = g; b = b }) (record { r = r'; g = g'; b = b' })
same_rgb r g b r' g' b' e f h = cc

-- the three trees of a forest
module _ (ts : List Tri) (spot : Spot) (hs : IsSpot spot) (r : Rule) (forest : ForestParts) (h : IsForest forest) where
  each_bounded : (c : Rgb → ℕ) (w : Power → ℕ) → IsChannel c w → EachTree (IsBounded c) (trees_of ts spot r forest)
  each_bounded c w ch = record {
    omni = bounded omni_meaning omni_laws ts spot hs r forest.omni.lights c w ch forest.omni.root h.omni;
    oriented = bounded oriented_meaning oriented_laws ts spot hs r forest.oriented.lights c w ch forest.oriented.root h.oriented;
    sun = bounded sun_meaning sun_laws ts spot hs r forest.sun.lights c w ch forest.sun.root h.sun;
  }

  each_limited : (c : Rgb → ℕ) (w : Power → ℕ) → IsChannel c w → EachTree (IsLimited c most_of_leaf) (trees_of ts spot r forest)
  each_limited c w ch = record {
    omni = limited omni_meaning omni_laws ts spot hs r forest.omni.lights c w ch forest.omni.root h.omni;
    oriented = limited oriented_meaning oriented_laws ts spot hs r forest.oriented.lights c w ch forest.oriented.root h.oriented;
    sun = limited sun_meaning sun_laws ts spot hs r forest.sun.lights c w ch forest.sun.root h.sun;
  }

  few : leaf_sum (roots_of (trees_of ts spot r forest)) ≤ 65536
  few =
      omega (
        arith,
        tree_sum-roots_of lits.leaf_count (trees_of ts spot r forest),
        leaves omni_meaning omni_laws ts spot hs r forest.omni.lights forest.omni.root h.omni,
        leaves oriented_meaning oriented_laws ts spot hs r forest.oriented.lights forest.oriented.root h.oriented,
        leaves sun_meaning sun_laws ts spot hs r forest.sun.lights forest.sun.root h.sun,
        h.few,
      )

  -- the sum over the lights of the three lists, in a channel
  abbrev light_sum : (Rgb → ℕ) → ℕ
  light_sum c =
      sum_by (λ l. c (contribution omni_meaning ts spot l)) forest.omni.lights
      + sum_by (λ l. c (contribution oriented_meaning ts spot l)) forest.oriented.lights
      + sum_by (λ l. c (contribution sun_meaning ts spot l)) forest.sun.lights

  full_in : (c : Rgb → ℕ) → full_sum c (roots_of (trees_of ts spot r forest)) ≡ light_sum c
  full_in c =
      omega (
        arith,
        tree_sum-roots_of (full_of c) (trees_of ts spot r forest),
        full omni_meaning omni_laws ts spot hs r forest.omni.lights c forest.omni.root h.omni,
        full oriented_meaning oriented_laws ts spot hs r forest.oriented.lights c forest.oriented.root h.oriented,
        full sun_meaning sun_laws ts spot hs r forest.sun.lights c forest.sun.root h.sun,
      )

  pub trees_bounded : AreBounded (trees_of ts spot r forest)
  trees_bounded = record { red = each_bounded red _ red_channel; green = each_bounded green _ green_channel; blue = each_bounded blue _ blue_channel }

  pub trees_limited : AreLimited (trees_of ts spot r forest)
  trees_limited = record { red = each_limited red _ red_channel; green = each_limited green _ green_channel; blue = each_limited blue _ blue_channel; few = few }

  pub trees_full : full_light (trees_of ts spot r forest) ≡ plain ts spot (lights_of forest)
  trees_full = same_rgb _ _ _ _ _ _ (full_in red) (full_in green) (full_in blue)

  -- the answer is within its bound of the sum over all lights
  pub answer_near : (size permille : ℕ) → IsNear (plain ts spot (lights_of forest)) (answer size permille (trees_of ts spot r forest))
  answer_near size permille =
      subst (λ light. IsNear light (answer size permille (trees_of ts spot r forest))) trees_full (near size permille (trees_of ts spot r forest) trees_bounded)
