-- Words that stand for something, by a table.
use Rattle.std.specs.Prelude.{ℕ, List, [], ◌∷◌, Option, Some, None, if◌then◌else◌}
use Rattle.std.specs.Str.{bytes_eq}

-- what a word stands for in a table of words, if anything: the first entry of the word tells
abbrev pub look_up : {K : Type 0} → List (List ℕ × K) → List ℕ → Option K
look_up [] word = None
look_up (entry ∷ later) word = if bytes_eq word entry.0 then Some entry.1 else look_up later word
