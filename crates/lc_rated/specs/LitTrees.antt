-- Lit trees: what each node of a light tree gives at one spot.
use Rattle.std.specs.Prelude.{ℕ, zero, suc, ◌+◌, ◌-◌, ◌*◌, ◌≤◌, ◌^◌, nat_lt, if◌then◌else◌, Option, None, Some, IfSome}
use Rattle.lc_num.specs.declared.channels.Rgb.{Rgb}
use Rattle.lc_num.specs.Channels.{black}
use Rattle.lc_rated.specs.declared.light.NodeLight.{NodeLight}
use Rattle.lc_rated.specs.declared.kind.LightKind.{LightKind}
use Rattle.lc_rated.specs.declared.kind.LightKind.TheVariants as kind

-- a lit_leaf has an estimate and no bound, an inner node has both and two children
pub data LitTree : Type 0 where
  lit_leaf : Rgb → LitTree
  lit_fork : NodeLight → LitTree → LitTree → LitTree

-- what the root of a tree has
abbrev pub light_of : LitTree → NodeLight
light_of (lit_leaf est) = record { est = est; bound = black }
light_of (lit_fork light left right) = light

abbrev pub leaf_count : LitTree → ℕ
leaf_count (lit_leaf est) = 1
leaf_count (lit_fork light left right) = leaf_count left + leaf_count right

abbrev pub node_count : LitTree → ℕ
node_count (lit_leaf est) = 1
node_count (lit_fork light left right) = 1 + (node_count left + node_count right)

-- the channels
abbrev pub red : Rgb → ℕ
red c = c.r

abbrev pub green : Rgb → ℕ
green c = c.g

abbrev pub blue : Rgb → ℕ
blue c = c.b

-- the full sum in a channel: the estimates of all leaves
abbrev pub full_of : (Rgb → ℕ) → LitTree → ℕ
full_of c (lit_leaf est) = c est
full_of c (lit_fork light left right) = full_of c left + full_of c right

-- in a channel, at every node, the estimate and the full sum differ by at most the bound
abbrev pub IsBounded : (Rgb → ℕ) → LitTree → Type 0
IsBounded c (lit_leaf est) = Unit {0}
IsBounded c (lit_fork light left right) =
    (c light.est ≤ (full_of c left + full_of c right) + c light.bound)
    × (full_of c left + full_of c right ≤ c light.est + c light.bound) × IsBounded c left × IsBounded c right

-- in a channel, at every node, estimate and bound are at most `most` for each lit_leaf below
abbrev pub IsLimited : (Rgb → ℕ) → ℕ → LitTree → Type 0
IsLimited c most (lit_leaf est) = c est ≤ most
IsLimited c most (lit_fork light left right) =
    (c light.est ≤ most * (leaf_count left + leaf_count right))
    × (c light.bound ≤ most * (leaf_count left + leaf_count right)) × IsLimited c most left × IsLimited c most right

-- the lit trees of the three kinds of light, each of them or none
pub record Trees : Type 0 where
  pub omni : Option LitTree
  pub oriented : Option LitTree
  pub sun : Option LitTree

abbrev pub tree_for : Trees → LightKind → Option LitTree
tree_for trees kind.Omni = trees.omni
tree_for trees kind.Oriented = trees.oriented
tree_for trees kind.Sun = trees.sun

-- the kinds in order
abbrev pub kind_number : LightKind → ℕ
kind_number kind.Omni = 0
kind_number kind.Oriented = 1
kind_number kind.Sun = 2

-- the node of a preorder number: the root has 0, the left child of p has p + 1, and the right child comes after the
-- left child's nodes
abbrev pub node_at : LitTree → ℕ → Option LitTree
node_at (lit_leaf est) zero = Some (lit_leaf est)
node_at (lit_leaf est) (suc p) = None
node_at (lit_fork light left right) zero = Some (lit_fork light left right)
node_at (lit_fork light left right) (suc p) =
    if nat_lt p (node_count left) then node_at left p else node_at right (p - node_count left)

abbrev pub node_of : Option LitTree → ℕ → Option LitTree
node_of None p = None
node_of (Some tree) p = node_at tree p

-- the node of a kind and a number
abbrev pub find : Trees → LightKind → ℕ → Option LitTree
find trees kind node = node_of (tree_for trees kind) node

-- a fact of each tree that is there
pub record EachTree (P : LitTree → Type 0) (trees : Trees) : Type 0 where
  pub omni : IfSome trees.omni P
  pub oriented : IfSome trees.oriented P
  pub sun : IfSome trees.sun P

-- in each channel every node's estimate is within its bound of the full sum
pub record AreBounded (trees : Trees) : Type 0 where
  pub red : EachTree (IsBounded red) trees
  pub green : EachTree (IsBounded green) trees
  pub blue : EachTree (IsBounded blue) trees

-- the most that a light can give in a channel
abbrev pub most_of_leaf : ℕ
most_of_leaf = 20000 * 65536 * 10 ^ 13 * 10 ^ 8
