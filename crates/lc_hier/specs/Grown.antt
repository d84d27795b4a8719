-- What building keeps. Clauses of private functions alone speak of it.
use Rattle.std.specs.Prelude.{◌≡◌, ℕ, ◌+◌, ◌<◌, ◌≤◌, List, All, length, slice_get, slice_index_or, Some}
use Rattle.lc_num.specs.Vectors.{zero_vector}
use Rattle.lc_geom.specs.declared.triangle.Tri.{Tri}
use Rattle.lc_geom.specs.Triangles.{IsTri}
use Rattle.lc_hier.specs.declared.bounds.Bounds.{Bounds}
use Rattle.lc_hier.specs.declared.item.Item.{Item}
use Rattle.lc_hier.specs.declared.node.Node.{Node}
use Rattle.lc_hier.specs.declared.node.Row.{Row}
use Rattle.lc_hier.specs.Boxes.{Holds}
use Rattle.lc_hier.specs.Layout.{AreNodes}
use Rattle.lc_hier.specs.Rows.{AreNumbered}

-- the triangle of an item's number, and that number
abbrev pub row_of : List Tri → Item → Row
row_of list item = record {
  triangle = slice_index_or list item.number (record { a = zero_vector; b = zero_vector; c = zero_vector });
  number = item.number;
}

-- an item's box holds the triangle of its number
pub record IsItem (list : List Tri) (item : Item) : Type 0 where
  pub below : item.number < length list
  pub held : Holds item.bounds (row_of list item).triangle

-- the boxes of items hold the triangles of the rows from `start` on
pub record AreHeld (items : List Item) (rows : List Row) (start : ℕ) : Type 0 where
  pub at : (k : ℕ) (item : Item) (row : Row) → slice_get items k ≡ Some item → slice_get rows (start + k) ≡ Some row
      → Holds item.bounds row.triangle

-- valid triangles with the boxes of these items, numbered
pub record AreRows (items : List Item) (rows : List Row) : Type 0 where
  pub many : length rows ≡ length items
  pub held : AreHeld items rows 0
  pub numbered : AreNumbered rows
  pub valid : All (λ row. IsTri row.triangle) rows

-- the nodes from the place `from` on are those of the rows from `start` up to `end`, all of which the box holds
pub record Grown (nodes : List Node) (rows : List Row) (from start end : ℕ) (bounds : Bounds) : Type 0 where
  pub laid : AreNodes nodes rows (length nodes) end from
  pub held : (j : ℕ) (row : Row) → start ≤ j → j < end → slice_get rows j ≡ Some row → Holds bounds row.triangle
