-- The words of the command line, as an order.
use Rattle.std.specs.Prelude.{ℕ, ◌==◌, List, length, Option, Some, None, if◌then◌else◌, codes}
use Rattle.std.specs.Str.{bytes_eq}
use Rattle.lc_tool.specs.Words.{word_at}
use Rattle.lc_map.specs.declared.kind.Kind.{Kind}
use Rattle.lc_map.specs.declared.kind.Kind.TheVariants.{Bound, Size, Missed}

-- a picture that is to be made: the name of the record that it maps, its own name, and what it shows
pub record Order : Type 0 where
  pub source : List ℕ
  pub picture : List ℕ
  pub kind : Kind

-- the kind of a word
abbrev pub kind_of : List ℕ → Option Kind
kind_of word =
    if bytes_eq word (codes "bound")
    then Some Bound
    else (if bytes_eq word (codes "size")
    then Some Size
    else (if bytes_eq word (codes "missed") then Some Missed else None))

-- a picture does not overwrite the record that it maps
abbrev pub order_by : List ℕ → List ℕ → Option Kind → Option Order
order_by source picture None = None
order_by source picture (Some kind) =
    if bytes_eq source picture then None else Some (record { source = source; picture = picture; kind = kind })

-- the order; nothing where the words are none
abbrev pub order_of : List (List ℕ) → Option Order
order_of words =
    if length words == 3 then order_by (word_at words 0) (word_at words 1) (kind_of (word_at words 2)) else None
