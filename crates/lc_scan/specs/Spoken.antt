-- The lines of a text that say something.
use Rattle.std.specs.Prelude.{ℕ, Bool, nat_lt, List, length, filter}
use Rattle.lc_scan.specs.Lines.{Line, lines}
use Rattle.lc_scan.specs.Fields.{fields}

-- the line has a field
abbrev pub is_spoken : Line → Bool
is_spoken l = nat_lt 0 (length (fields l.bytes))

-- the lines of these that have a field; readers pass over the others
abbrev pub spoken_in : List Line → List Line
spoken_in ls = filter is_spoken ls

-- the lines of a text that have a field
abbrev pub spoken : List ℕ → List Line
spoken text = spoken_in (lines text)
