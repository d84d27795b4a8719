-- How a hierarchy lies in memory: boxes in preorder, each with the rows of triangles that it holds.
use Rattle.std.specs.Prelude.{◌≡◌, ℕ, ◌+◌, ◌-◌, ◌<◌, ◌≤◌, ◌⊎◌, List, length, All, Some, slice_get, option_map, unwrap_or}
use Rattle.lc_geom.specs.Triangles.{IsTri}
use Rattle.lc_hier.specs.declared.node.Node.{Node}
use Rattle.lc_hier.specs.declared.node.Row.{Row}
use Rattle.lc_hier.specs.Boxes.{Holds}
use Rattle.lc_hier.specs.Rows.{AreNumbered}

-- the first row of the node at i; behind the nodes so far it is `end`
abbrev pub first_row : List Node → ℕ → ℕ → ℕ
first_row nodes end i = unwrap_or (option_map (λ node. node.first) (slice_get nodes i)) end

-- the node at i, where `count` nodes stand in front of the end: what its subtree leads to, and that its box holds all
-- triangles of its rows. Of a leaf these are the rows up to the next node's; an inner node shares its first row with
-- the next node
pub record IsNode (nodes : List Node) (rows : List Row) (count end i : ℕ) (node : Node) : Type 0 where
  pub onward : i < node.skip
  pub within : node.skip ≤ count
  pub rises : node.first ≤ first_row nodes end node.skip
  pub next : (node.skip ≡ i + 1) ⊎ (first_row nodes end (i + 1) ≡ node.first)
  pub held : (j : ℕ) (row : Row) → node.first ≤ j → j < first_row nodes end node.skip → slice_get rows j ≡ Some row
      → Holds node.bounds row.triangle

-- the nodes from the place `from` on are nodes of these rows
abbrev pub AreNodes : List Node → List Row → ℕ → ℕ → ℕ → Type 0
AreNodes nodes rows count end from =
    (i : ℕ) (node : Node) → from ≤ i → i < count → slice_get nodes i ≡ Some node → IsNode nodes rows count end i node

-- boxes for all rows, each of them a valid triangle; the last node stands behind them
pub record IsHierarchy (nodes : List Node) (rows : List Row) : Type 0 where
  pub some : 0 < length nodes
  pub starts : first_row nodes (length rows) 0 ≡ 0
  pub ends : (node : Node) → slice_get nodes (length nodes - 1) ≡ Some node → node.first ≡ length rows
  pub laid : AreNodes nodes rows (length nodes - 1) (length rows) 0
  pub numbered : AreNumbered rows
  pub valid : All (λ row. IsTri row.triangle) rows
  pub few : length rows ≤ 1_000_000
