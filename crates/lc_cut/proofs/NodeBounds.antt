-- The nodes of a tree: neither estimate nor sum is above the top, and they differ by at most the bound.
use Rattle.std.proofs.Common.{◌≡◌, ℕ, ◌+◌, ◌*◌, ◌≤◌, List, Some, sum_by, arith, ap, ◌∙◌}
use Rattle.std.proofs.Math.Nat.{mul-le-mul_right}
use Rattle.lc_num.specs.declared.channels.Rgb.{Rgb}
use Rattle.lc_num.specs.declared.channels.Power.{Power}
use Rattle.lc_num.specs.declared.rules.Rule.{Rule}
use Rattle.lc_num.specs.declared.rules.Rule.TheVariants as rule
use Rattle.lc_geom.specs.declared.triangle.Tri.{Tri}
use Rattle.lc_num.specs.Channels.{IsAtMost}
use Rattle.lc_terms.specs.Kind.{Meaning, Laws}
use Rattle.lc_terms.specs.Spot.{IsSpot}
use Rattle.lc_terms.specs.declared.spot.Spot.{Spot}
use Rattle.lc_tree.specs.Node.{Node, leaf, fork, leaf_count, node_at, members, clump_of}
use Rattle.lc_tree.specs.Rows.{IsTree, IsNumbered, IsLed}
use Rattle.lc_tree.proofs.Cover.{Holds, holds}
use Rattle.lc_tree.proofs.NodeLaws.{leaf_for_each, node_every}
use Rattle.lc_rated.specs.Cuts.{apart}
use Rattle.lc_rated.specs.LitTrees.{red, green, blue}
use Rattle.lc_cut.specs.Contribution.{contribution}
use Rattle.lc_cut.specs.Lit.{est_of, light_at, top_of, IsBoundedNode}
use Rattle.lc_cut.proofs.LitLaws.{IsChannel, red_channel, green_channel, blue_channel, bound_covers, bound_sharper, est_below, full_members, sum_below}

apart_within : (x y n : ℕ) → x ≤ y + n → y ≤ x + n → apart x y ≤ n
apart_within x y n h k = omega arith

module _ {L C : Type 0} (m : Meaning L C) (laws : Laws m) (lights : List L) (root : Node L) (tree : IsTree m.valid_light lights root) where
  -- the facts of a whole tree hold at each of its nodes
  record IsNode (t : Node L) : Type 0 where
    numbered : IsNumbered lights t
    led : IsLed t
    few : leaf_count t ≤ 65536

  node_is : (p : ℕ) (t : Node L) → node_at root p ≡ Some t → IsNode t
  node_is p t e = record {
    numbered = node_every (IsNumbered lights) (λ n l a b q. (q.1, q.2)) root p t e tree.numbered;
    led = node_every IsLed (λ n l a b q. (q.1, q.2)) root p t e tree.led;
    few = node_every (λ s. leaf_count s ≤ 65536) (λ n l a b q. (omega (arith, q), omega (arith, q))) root p t e (omega (arith, leaf_for_each m.valid_light lights root tree, tree.few));
  }

  module _ (ts : List Tri) (spot : Spot) (hs : IsSpot spot) where
    holds_at : (t : Node L) → IsNode t → Holds m t (clump_of m.one m.join t)
    holds_at t h = holds m laws lights tree.valid_lights t h.numbered h.few

    est_in : (c : Rgb → ℕ) (w : Power → ℕ) → IsChannel c w → (r : Rule) (t : Node L) → IsNode t → c (est_of m ts spot t) ≤ c (top_of m spot r t)
    est_in c w ch r t h = est_below c w ch m ts spot laws hs lights tree.valid_lights r t h.led (holds_at t h)

    sum_in : (c : Rgb → ℕ) (w : Power → ℕ) → IsChannel c w → (r : Rule) (t : Node L) → IsNode t → sum_by (λ l. c (contribution m ts spot l)) (members t) ≤ c (top_of m spot r t)
    sum_in c w ch r t h = sum_below c w ch m ts spot laws hs lights tree.valid_lights r t (holds_at t h)

    near_in : (c : Rgb → ℕ) (w : Power → ℕ) → IsChannel c w → (r : Rule) (t : Node L) → IsNode t → apart (sum_by (λ l. c (contribution m ts spot l)) (members t)) (c (est_of m ts spot t)) ≤ c (light_at m ts spot r t).bound
    near_in c w ch r (leaf n l) h =
        let own : c (est_of m ts spot (leaf n l)) ≡ sum_by (λ l. c (contribution m ts spot l)) (members (leaf n l)) = full_members c m ts spot r (leaf n l) in
        rw own (omega arith)
    near_in c w ch r (fork n l a b) h =
        let t : Node L = fork n l a b in
        let near = bound_covers r (c (est_of m ts spot t)) (c (top_of m spot r t)) (sum_by (λ l. c (contribution m ts spot l)) (members t)) (est_in c w ch r t h) (sum_in c w ch r t h) in
        rw (ch.bound r (est_of m ts spot t) (top_of m spot r t)) (apart_within _ _ _ near.1 near.0)

    pub node_bounded : (r : Rule) (p : ℕ) (t : Node L) → node_at root p ≡ Some t → IsBoundedNode m ts spot r t
    node_bounded r p t e =
        let h : IsNode t = node_is p t e in
        record {
          est = record { r = est_in red _ red_channel r t h; g = est_in green _ green_channel r t h; b = est_in blue _ blue_channel r t h };
          sum = record { r = sum_in red _ red_channel r t h; g = sum_in green _ green_channel r t h; b = sum_in blue _ blue_channel r t h };
          red = near_in red _ red_channel r t h;
          green = near_in green _ green_channel r t h;
          blue = near_in blue _ blue_channel r t h;
        }

    top_sharper : (c : Rgb → ℕ) (w : Power → ℕ) → IsChannel c w → (t : Node L) → IsNode t → c (top_of m spot rule.Two t) ≤ c (top_of m spot rule.One t)
    top_sharper c w ch t h =
        let k : C = clump_of m.one m.join t in
        let v : m.valid_clump k = (holds_at t h).valid in
        let one : c (m.top spot k rule.One) ≡ c (m.reach spot k rule.One) * w (m.total k) = ap c (laws.top_is spot k rule.One hs v) ∙ ch.by (m.reach spot k rule.One) (m.total k) in
        let two : c (m.top spot k rule.Two) ≡ c (m.reach spot k rule.Two) * w (m.total k) = ap c (laws.top_is spot k rule.Two hs v) ∙ ch.by (m.reach spot k rule.Two) (m.total k) in
        rw (one, two) (mul-le-mul_right (w (m.total k)) (ch.below _ _ (laws.sharper spot k hs v)))

    sharper_in : (t : Node L) → IsNode t → IsAtMost (light_at m ts spot rule.One t).bound (light_at m ts spot rule.Two t).bound
    sharper_in (leaf n l) h = record { r = omega arith; g = omega arith; b = omega arith }
    sharper_in (fork n l a b) h =
        let t : Node L = fork n l a b in
        record {
          r = bound_sharper _ _ _ (est_in red _ red_channel rule.Two t h) (top_sharper red _ red_channel t h);
          g = bound_sharper _ _ _ (est_in green _ green_channel rule.Two t h) (top_sharper green _ green_channel t h);
          b = bound_sharper _ _ _ (est_in blue _ blue_channel rule.Two t h) (top_sharper blue _ blue_channel t h);
        }

    pub node_sharper : (p : ℕ) (t : Node L) → node_at root p ≡ Some t → IsAtMost (light_at m ts spot rule.One t).bound (light_at m ts spot rule.Two t).bound
    node_sharper p t e = sharper_in t (node_is p t e)
