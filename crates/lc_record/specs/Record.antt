-- The bytes of a record: its header, and a line for each sample.
use Rattle.std.specs.Prelude.{ℕ, ◌*◌, ◌-◌, ◌^◌, ◌≤◌, List, ◌++◌, codes, decimal, flat_map}
use Rattle.lc_num.specs.Channels.{IsRgbWithin}
use Rattle.lc_num.specs.Rules.{rule_number}
use Rattle.lc_rated.specs.declared.answer.Answer.{Answer}
use Rattle.lc_record.specs.declared.head.Header.{Header}

-- a number, and a blank
abbrev pub field : ℕ → List ℕ
field n = decimal n ++ codes " "

-- the number of the rule, the width, the height, the grid, the cut and the thousandths
unfoldable pub record_header : Header → List ℕ
record_header h =
    codes "LCB " ++ field (rule_number h.rule) ++ field h.width ++ field h.height ++ field h.grid ++ field h.cut
    ++ decimal h.permille ++ codes "\n"

-- size, evaluations, estimate and bound of an answer, in each channel
unfoldable pub line_bytes : Answer → List ℕ
line_bytes a =
    field a.size ++ field a.evals ++ field a.est.r ++ field a.est.g ++ field a.est.b ++ field a.bound.r
    ++ field a.bound.g ++ decimal a.bound.b ++ codes "\n"

-- the numbers of a sample whose cut has at most `most` nodes
pub record IsSample (most : ℕ) (a : Answer) : Type 0 where
  pub size : a.size ≤ most
  pub evals : a.evals ≤ 2 * most
  pub est : IsRgbWithin (2 ^ 117 - 1) a.est
  pub bound : IsRgbWithin (2 ^ 117 - 1) a.bound

-- the ranges of a header; its rule may be either
pub record IsHeader (h : Header) : Type 0 where
  pub width : (1 ≤ h.width) × (h.width ≤ 4096)
  pub height : (1 ≤ h.height) × (h.height ≤ 4096)
  pub grid : (1 ≤ h.grid) × (h.grid ≤ 16)
  pub cut : (3 ≤ h.cut) × (h.cut ≤ 65_536)
  pub permille : h.permille ≤ 1000

-- a whole record: its header, and a line for each answer
unfoldable pub text : Header → List Answer → List ℕ
text header answers = record_header header ++ flat_map line_bytes answers
