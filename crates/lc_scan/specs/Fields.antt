-- The fields of a logical line.
use Rattle.std.specs.Prelude.{ℕ, ◌+◌, ◌-◌, Bool, not, ◌||◌, ◌&&◌, ◌==◌, nat_eq, nat_lt, List, [], ◌∷◌, ◌++◌, length, drop, take, filter, take_while, slice_index, slice_index_or, if◌then◌else◌}
use Rattle.std.specs.List.{slice_split, starts_with, prefix_len, suffix_len}
use Rattle.lc_scan.specs.Lines.{joins}

-- space, tab and carriage return
abbrev pub is_blank : ℕ → Bool
is_blank b = b == 32 || b == 9 || b == 13

-- a line feed comes first, or a carriage return and a line feed
abbrev pub breaks : List ℕ → Bool
breaks bytes = starts_with nat_eq bytes (10 ∷ []) || starts_with nat_eq bytes (13 ∷ 10 ∷ [])

-- the byte between these is the `\` of a join, or its line feed
abbrev pub is_joint : List ℕ → ℕ → List ℕ → Bool
is_joint before b after = (b == 92 && breaks after) || (b == 10 && joins before)

-- these bytes with a space in place of each such one, where `before` stands before them
unfoldable pub spaced_after : List ℕ → List ℕ → List ℕ
spaced_after before [] = []
spaced_after before (b ∷ after) = (if is_joint before b after then 32 else b) ∷ spaced_after (before ++ b ∷ []) after

-- the line with its joins as blanks
abbrev pub spaced : List ℕ → List ℕ
spaced line = spaced_after [] line

abbrev pub is_word : List ℕ → Bool
is_word piece = nat_lt 0 (length piece)

-- the longest runs of bytes without blanks
abbrev pub words : List ℕ → List (List ℕ)
words bytes = filter is_word (slice_split is_blank bytes)

-- a word that begins with `#` begins a comment
abbrev pub is_comment : List ℕ → Bool
is_comment word = slice_index word 0 == 35

-- the words before the first comment
abbrev pub fields_in : List ℕ → List (List ℕ)
fields_in bytes = take_while (λ word. not (is_comment word)) (words bytes)

-- the fields of a line
abbrev pub fields : List ℕ → List (List ℕ)
fields line = fields_in (spaced line)

-- ---- a line's keyword is its first field, and its values are the others

-- the k-th of these fields
abbrev pub field_at : ℕ → List (List ℕ) → List ℕ
field_at k fs = slice_index_or fs k []

abbrev pub keyword_in : List ℕ → List ℕ
keyword_in line = field_at 0 (fields line)

abbrev pub values_in : List ℕ → List (List ℕ)
values_in line = drop 1 (fields line)

-- ---- what follows the first field

-- without the blanks at both ends; there a join is bytes like others
abbrev pub trimmed : List ℕ → List ℕ
trimmed bytes = let tail = drop (prefix_len is_blank bytes) bytes in take (length tail - suffix_len is_blank tail) tail

-- the bytes of a line that follow the first of these fields of it
abbrev pub after_first_of : List (List ℕ) → List ℕ → List ℕ
after_first_of [] line = []
after_first_of (first ∷ later) line = drop (prefix_len is_blank (spaced line) + length first) line

-- what follows the first field, without blanks at its ends
abbrev pub rest : List ℕ → List ℕ
rest line = trimmed (after_first_of (fields line) line)
