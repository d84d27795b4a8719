-- What the nodes of a light tree give at a spot among triangles.
use Rattle.std.specs.Prelude.{◌≡◌, ℕ, ◌-◌, ◌*◌, ◌^◌, ◌≤◌, max, List, Option, None, Some, IsSomeAnd}
use Rattle.lc_num.specs.Channels.{black, IsRgbWithin, by_power, IsAtMost}
use Rattle.lc_num.specs.declared.channels.Rgb.{Rgb}
use Rattle.lc_num.specs.declared.rules.Rule.{Rule}
use Rattle.lc_num.specs.declared.rules.Rule.TheVariants as rule
use Rattle.lc_geom.specs.declared.triangle.Tri.{Tri}
use Rattle.lc_terms.specs.Kind.{Meaning, factor_of}
use Rattle.lc_terms.specs.declared.spot.Spot.{Spot}
use Rattle.lc_tree.specs.Node.{Node, leaf, fork, leader, members, clump_of, node_of}
use Rattle.lc_tree.specs.Cover.{power_sum}
use Rattle.lc_rated.specs.declared.light.NodeLight.{NodeLight}
use Rattle.lc_rated.specs.Cuts.{apart}
use Rattle.lc_rated.specs.LitTrees.{LitTree}
use Rattle.lc_rated.specs.LitTrees.{LitTree, lit_leaf, lit_fork}
use Rattle.lc_cut.specs.Contribution.{plain_of}

-- in a channel, how far an estimate can be from what is there, where neither is above the top: under the first rule the
-- top bounds that, and under the second the greater of the estimate and of what the estimate leaves of the top
abbrev pub channel_bound : Rule → ℕ → ℕ → ℕ
channel_bound rule.One est top = top
channel_bound rule.Two est top = max est (top - est)

abbrev pub node_bound : Rule → Rgb → Rgb → Rgb
node_bound r est top =
    record { r = channel_bound r est.r top.r; g = channel_bound r est.g top.g; b = channel_bound r est.b top.b }

module _ {L C : Type 0} where
  -- the most that the lights below a node can give: the top of the node's clump
  abbrev pub top_of : Meaning L C → Spot → Rule → Node L → Rgb
  top_of m spot r t = m.top spot (clump_of m.one m.join t) r

  -- the bound of a node with this estimate: nothing for a leaf, which is its own representative, and else by the top
  abbrev pub bound_of : Meaning L C → Spot → Rule → Rgb → Node L → Rgb
  bound_of m spot r est (leaf n l) = black
  bound_of m spot r est (fork n l a b) = node_bound r est (top_of m spot r (fork n l a b))

  -- with a factor of the representative, the estimate is that times the summed intensity of the lights below
  abbrev pub light_by : Meaning L C → Spot → Rule → Rgb → Node L → NodeLight
  light_by m spot r factor t = record {
    est = by_power factor (power_sum m (members t));
    bound = bound_of m spot r (by_power factor (power_sum m (members t))) t;
  }

  -- what a node gives, with the factor that its representative has
  abbrev pub light_at : Meaning L C → List Tri → Spot → Rule → Node L → NodeLight
  light_at m ts spot r t = light_by m spot r (factor_of m ts spot (leader t)) t

  abbrev pub est_of : Meaning L C → List Tri → Spot → Node L → Rgb
  est_of m ts spot t = by_power (factor_of m ts spot (leader t)) (power_sum m (members t))

  abbrev pub lit : Meaning L C → List Tri → Spot → Rule → Node L → LitTree
  lit m ts spot r (leaf n l) = lit_leaf (est_of m ts spot (leaf n l))
  lit m ts spot r (fork n l a b) =
      lit_fork (light_at m ts spot r (fork n l a b)) (lit m ts spot r a) (lit m ts spot r b)

  abbrev pub lit_root : Meaning L C → List Tri → Spot → Rule → Option (Node L) → Option LitTree
  lit_root m ts spot r None = None
  lit_root m ts spot r (Some t) = Some (lit m ts spot r t)

  -- neither the estimate of a node nor the sum of the contributions of the lights below it is above the node's top,
  -- and they differ by at most its bound
  pub record IsBoundedNode (m : Meaning L C) (ts : List Tri) (spot : Spot) (r : Rule) (t : Node L) : Type 0 where
    pub est : IsAtMost (top_of m spot r t) (light_at m ts spot r t).est
    pub sum : IsAtMost (top_of m spot r t) (plain_of m ts spot (members t))
    pub red : apart (plain_of m ts spot (members t)).r (light_at m ts spot r t).est.r ≤ (light_at m ts spot r t).bound.r
    pub green : apart (plain_of m ts spot (members t)).g (light_at m ts spot r t).est.g
        ≤ (light_at m ts spot r t).bound.g
    pub blue : apart (plain_of m ts spot (members t)).b (light_at m ts spot r t).est.b
        ≤ (light_at m ts spot r t).bound.b

  -- the factor of the representative of the node of a number
  pub record IsFactor (m : Meaning L C) (ts : List Tri) (spot : Spot) (root : Option (Node L)) (p : ℕ)
      (factor : Rgb) : Type 0 where
    pub is : IsSomeAnd (node_of root p) (λ t. factor ≡ factor_of m ts spot (leader t))
    pub within : IsRgbWithin (20_000 * 65_536 * 10 ^ 13) factor
