-- Triangles with their numbers, in any order, and the list that they stand for.
use Rattle.std.specs.Prelude.{ℕ, ◌==◌, if◌then◌else◌, List, [], ◌∷◌, length, map, IsPermutation}
use Rattle.std.specs.List.{range_with_len}
use Rattle.lc_num.specs.Vectors.{zero_vector}
use Rattle.lc_geom.specs.declared.triangle.Tri.{Tri}
use Rattle.lc_hier.specs.declared.node.Row.{Row}

-- the triangle of the row that has this number
abbrev pub triangle_of : List Row → ℕ → Tri
triangle_of [] number = record { a = zero_vector; b = zero_vector; c = zero_vector }
triangle_of (row ∷ rows) number = if row.number == number then row.triangle else triangle_of rows number

-- the list that rows stand for: at each number the triangle of the row that has it
unfoldable pub list_of : List Row → List Tri
list_of rows = map (triangle_of rows) (range_with_len 0 (length rows))

-- each number below the number of rows stands in exactly one row
abbrev pub AreNumbered : List Row → Type 0
AreNumbered rows = IsPermutation (map (λ row. row.number) rows) (range_with_len 0 (length rows))
