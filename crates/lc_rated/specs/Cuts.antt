-- The sequence of cuts through lit trees, the chosen cut and its answer.
use Rattle.std.specs.Prelude.{◌≡◌, ℕ, zero, suc, ◌+◌, ◌-◌, ◌*◌, ◌<◌, ◌≤◌, max, ◌==◌, nat_le, ◌&&◌, ◌||◌, ◌⊎◌, Bool, if◌then◌else◌, Option, None, Some, List, [], ◌∷◌, ◌++◌, length, sum_by}
use Rattle.lc_num.specs.declared.channels.Rgb.{Rgb}
use Rattle.lc_rated.specs.declared.light.NodeLight.{NodeLight}
use Rattle.lc_rated.specs.declared.answer.Answer.{Answer}
use Rattle.lc_rated.specs.declared.kind.LightKind.{LightKind}
use Rattle.lc_rated.specs.declared.kind.LightKind.TheVariants as kind
use Rattle.lc_rated.specs.LitTrees.{LitTree, lit_leaf, lit_fork, light_of, leaf_count, full_of, red, green, blue, kind_number, Trees, EachTree, IsLimited, most_of_leaf}

-- a node of a cut: its kind, its number, and the lit tree below it
pub record Placed : Type 0 where
  pub kind : LightKind
  pub node : ℕ
  pub tree : LitTree

-- the sum of the three channels of a bound
abbrev pub light_key : NodeLight → ℕ
light_key light = light.bound.r + light.bound.g + light.bound.b

abbrev pub key_of : Placed → ℕ
key_of p = light_key (light_of p.tree)

abbrev pub greatest_key : List Placed → ℕ
greatest_key [] = 0
greatest_key (p ∷ ps) = max (key_of p) (greatest_key ps)

-- the two children of a node; a leaf has none, and stays
abbrev pub parts_of : LightKind → ℕ → LitTree → List Placed
parts_of kind node (lit_leaf est) = record { kind = kind; node = node; tree = lit_leaf est } ∷ []
parts_of kind node (lit_fork light left right) =
    record { kind = kind; node = node + 1; tree = left }
    ∷ record { kind = kind; node = node + 2 * leaf_count left; tree = right }
    ∷ []

-- the first node of this key gives way to its children
abbrev pub replaced : ℕ → List Placed → List Placed
replaced key [] = []
replaced key (p ∷ ps) = if key_of p == key then parts_of p.kind p.node p.tree ++ ps else p ∷ replaced key ps

-- the node of greatest key gives way to its children; a cut is in order, so of several the one of lowest kind and
-- number
abbrev pub refined : List Placed → List Placed
refined cut = replaced (greatest_key cut) cut

abbrev pub root_of : LightKind → Option LitTree → List Placed
root_of kind None = []
root_of kind (Some tree) = record { kind = kind; node = 0; tree = tree } ∷ []

-- the first cut: the roots of the trees that are there
abbrev pub roots_of : Trees → List Placed
roots_of trees = root_of kind.Omni trees.omni ++ (root_of kind.Oriented trees.oriented ++ root_of kind.Sun trees.sun)

-- the cut after k refinements
abbrev pub cut_at : List Placed → ℕ → List Placed
cut_at roots zero = roots
cut_at roots (suc k) = refined (cut_at roots k)

-- sums over a cut in a channel
abbrev pub est_sum : (Rgb → ℕ) → List Placed → ℕ
est_sum c cut = sum_by (λ p. c (light_of p.tree).est) cut

abbrev pub bound_sum : (Rgb → ℕ) → List Placed → ℕ
bound_sum c cut = sum_by (λ p. c (light_of p.tree).bound) cut

abbrev pub full_sum : (Rgb → ℕ) → List Placed → ℕ
full_sum c cut = sum_by (λ p. full_of c p.tree) cut

abbrev pub totals_of : List Placed → NodeLight
totals_of cut = record {
  est = record { r = est_sum red cut; g = est_sum green cut; b = est_sum blue cut };
  bound = record { r = bound_sum red cut; g = bound_sum green cut; b = bound_sum blue cut };
}

-- a bound is within the permille of an estimate
abbrev pub is_within : ℕ → ℕ → ℕ → Bool
is_within permille bound est = nat_le (1000 * bound) (permille * est)

-- a cut of so many nodes and of these totals stops: it has the greatest size, or its bounds are within the permille of its
-- estimates in each channel
abbrev pub is_stop : ℕ → ℕ → ℕ → NodeLight → Bool
is_stop size permille count totals =
    (count == size)
    || ((is_within permille totals.bound.r totals.est.r && is_within permille totals.bound.g totals.est.g)
    && is_within permille totals.bound.b totals.est.b)

abbrev pub stops : ℕ → ℕ → List Placed → Bool
stops size permille cut = is_stop size permille (length cut) (totals_of cut)

-- the least number below n of which the test holds, or n
abbrev pub least_passing : ℕ → (ℕ → Bool) → ℕ
least_passing zero test = 0
least_passing (suc n) test = if test 0 then 0 else suc (least_passing n (λ k. test (suc k)))

-- how often the roots are refined until a cut stops
abbrev pub refinements : ℕ → ℕ → List Placed → ℕ
refinements size permille roots = least_passing size (λ k. stops size permille (cut_at roots k))

-- the first cut that stops
abbrev pub chosen : ℕ → ℕ → List Placed → List Placed
chosen size permille roots = cut_at roots (refinements size permille roots)

-- one light is evaluated for each root and for each refinement, so as many as the cut has nodes
abbrev pub answer_of : List Placed → Answer
answer_of cut = record {
  size = length cut;
  evals = length cut;
  est = (totals_of cut).est;
  bound = (totals_of cut).bound;
}

-- the answer for a greatest size and a permille
abbrev pub answer : ℕ → ℕ → Trees → Answer
answer size permille trees = answer_of (chosen size permille (roots_of trees))

-- the estimates of all leaves
abbrev pub full_light : Trees → Rgb
full_light trees =
    record { r = full_sum red (roots_of trees); g = full_sum green (roots_of trees); b = full_sum blue (roots_of trees) }

-- how far two numbers are from one another
abbrev pub apart : ℕ → ℕ → ℕ
apart x y = (x - y) + (y - x)

-- the estimate differs from the light by at most the bound, in each channel
pub record IsNear (light : Rgb) (a : Answer) : Type 0 where
  pub red : apart light.r a.est.r ≤ a.bound.r
  pub green : apart light.g a.est.g ≤ a.bound.g
  pub blue : apart light.b a.est.b ≤ a.bound.b

-- the bound is within the permille of the estimate, in each channel
pub record IsFraction (permille : ℕ) (a : Answer) : Type 0 where
  pub red : 1000 * a.bound.r ≤ permille * a.est.r
  pub green : 1000 * a.bound.g ≤ permille * a.est.g
  pub blue : 1000 * a.bound.b ≤ permille * a.est.b

-- the leaves under the nodes of a cut
abbrev pub leaf_sum : List Placed → ℕ
leaf_sum cut = sum_by (λ p. leaf_count p.tree) cut

-- there are at most 65,536 leaves, and no node has more in a channel than a light can give for each of its leaves
pub record AreLimited (trees : Trees) : Type 0 where
  pub red : EachTree (IsLimited red most_of_leaf) trees
  pub green : EachTree (IsLimited green most_of_leaf) trees
  pub blue : EachTree (IsLimited blue most_of_leaf) trees
  pub few : leaf_sum (roots_of trees) ≤ 65536

-- a fact of each node of a cut
abbrev pub EachNode : (Placed → Type 0) → List Placed → Type 0
EachNode Q [] = Unit {0}
EachNode Q (p ∷ ps) = Q p × EachNode Q ps

abbrev pub IsBefore : Placed → Placed → Type 0
IsBefore p q =
    (kind_number p.kind < kind_number q.kind) ⊎ ((kind_number p.kind ≡ kind_number q.kind) × (p.node < q.node))

-- each node stands before all that follow it, by kind and then by number
abbrev pub IsInOrder : List Placed → Type 0
IsInOrder [] = Unit {0}
IsInOrder (p ∷ ps) = EachNode (IsBefore p) ps × IsInOrder ps
