-- The logical lines of a text.
use Rattle.std.specs.Prelude.{ℕ, ◌+◌, Bool, ◌||◌, ◌==◌, nat_eq, List, [], ◌∷◌, ◌++◌, drop, if◌then◌else◌}
use Rattle.std.specs.List.{slice_split, starts_with, ends_with}

-- a logical line: the number of its first physical line, and its bytes without the line feed that ends it
pub record Line : Type 0 where
  pub number : ℕ
  pub bytes : List ℕ

abbrev pub line : ℕ → List ℕ → Line
line number bytes = record { number = number; bytes = bytes }

abbrev pub is_feed : ℕ → Bool
is_feed b = b == 10

-- what stands between the line feeds; the last piece is a physical line only where a byte of it stands
abbrev pub pieces : List ℕ → List (List ℕ)
pieces text = slice_split is_feed text

-- a `\` stands directly before what follows, or before a carriage return and what follows
abbrev pub joins : List ℕ → Bool
joins bytes = ends_with nat_eq bytes (92 ∷ []) || ends_with nat_eq bytes (92 ∷ 13 ∷ [])

-- the line that begins with this piece and its line feed and goes on with the first of these lines, if there is one
abbrev pub joined : ℕ → List ℕ → List Line → List Line
joined number piece [] = line number (piece ++ 10 ∷ []) ∷ []
joined number piece (next ∷ later) = line number (piece ++ 10 ∷ next.bytes) ∷ later

abbrev pub last_line : ℕ → List ℕ → List Line
last_line number [] = []
last_line number (b ∷ bs) = line number (b ∷ bs) ∷ []

-- the logical lines of these pieces, of which the first has this number
unfoldable pub lines_of : ℕ → List (List ℕ) → List Line
lines_of number [] = []
lines_of number (piece ∷ []) = last_line number piece
lines_of number (piece ∷ next ∷ later) =
    if joins piece
    then joined number piece (lines_of (number + 1) (next ∷ later))
    else line number piece ∷ lines_of (number + 1) (next ∷ later)

-- the text after its byte order mark, if it has one
abbrev pub without_mark : List ℕ → List ℕ
without_mark text = if starts_with nat_eq text (239 ∷ 187 ∷ 191 ∷ []) then drop 3 text else text

-- the logical lines of a text, numbered from 1
abbrev pub lines : List ℕ → List Line
lines text = lines_of 1 (pieces (without_mark text))
