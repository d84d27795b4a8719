-- Pieces of a header and of a line. Only private functions speak of them.
use Rattle.std.specs.Prelude.{◌≡◌, ℕ, ◌≤◌, List, [], ◌∷◌, ◌++◌, All, length, decimal, flat_map}
use Rattle.lc_num.specs.declared.channels.Rgb.{Rgb}
use Rattle.lc_rated.specs.declared.answer.Answer.{Answer}
use Rattle.lc_record.specs.declared.head.Header.{Header}
use Rattle.lc_record.specs.Record.{field, IsSample, line_bytes}
use Rattle.lc_record.specs.Reading.{samples}

abbrev pub IsWithin : ℕ → ℕ → ℕ → Type 0
IsWithin least most n = (least ≤ n) × (n ≤ most)

-- a number, and the byte that ends it
abbrev pub ended : ℕ → ℕ → List ℕ
ended end n = decimal n ++ end ∷ []

-- three numbers, and the byte that ends the last
abbrev pub colour : ℕ → Rgb → List ℕ
colour end c = field c.r ++ field c.g ++ ended end c.b

-- the lines after a header: one for each sample that it announces, and nothing else
pub record AreLinesOf (h : Header) (answers : List Answer) (bytes : List ℕ) : Type 0 where
  pub valid : All (IsSample h.cut) answers
  pub count : length answers ≡ samples h
  pub lines : bytes ≡ flat_map line_bytes answers
