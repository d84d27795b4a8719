-- What building keeps.
use Rattle.std.specs.Prelude.{◌≡◌, ℕ, ◌≤◌, List, ◌++◌, length, map, slice_get, Some, IsPermutation}
use Rattle.lc_terms.specs.Kind.{Meaning}
use Rattle.lc_tree.specs.declared.row.Row.{Row}
use Rattle.lc_tree.specs.declared.numbered.Numbered.{Numbered}
use Rattle.lc_tree.specs.Node.{Node, leaf_count, numbers}
use Rattle.lc_tree.specs.Rows.{rows_of, row_of, IsNumbered, IsLed}
use Rattle.lc_tree.specs.Build.{halved}

module _ {L : Type 0} where
  -- a numbered light stands in the list at its number
  abbrev pub StandsIn : List L → Numbered L → Type 0
  StandsIn lights e = slice_get lights e.number ≡ Some e.light

module _ {L C : Type 0} where
  -- a numbered light is valid, and has its place
  pub record IsValid (m : Meaning L C) (e : Numbered L) : Type 0 where
    pub light : m.valid_light e.light
    pub place : e.place ≡ m.place e.light

  -- rows grew by those of the tree over some lights
  pub record Grown (m : Meaning L C) (word : ℕ → ℕ) (lights : List L) (es : List (Numbered L))
      (old new : List (Row C)) (row : Row C) : Type 0 where
    pub tree : Node L
    pub rows : new ≡ old ++ rows_of m.one m.join tree
    pub root : row ≡ row_of m.one m.join tree
    pub halved : (fuel : ℕ) → length es ≤ fuel → halved m word fuel (length old) es ≡ Some tree
    pub leaves : leaf_count tree ≡ length es
    pub numbers_are : IsPermutation (numbers tree) (map (λ e. e.number) es)
    pub numbered : IsNumbered lights tree
    pub led : IsLed tree
