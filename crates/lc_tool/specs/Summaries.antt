-- The line by which `make` tells its picture in short.
use Rattle.std.specs.Prelude.{ℕ, List, ◌++◌, codes, decimal}
use Rattle.lc_make.specs.Made.{light_count, triangle_count, sample_count}
use Rattle.lc_rated.specs.declared.answer.Answer.{Answer}
use Rattle.lc_frame.specs.Frames.{summary_of}
use Rattle.lc_frame.specs.declared.summary.Summary.{Summary}

-- how many lights, triangles and samples there are, how many nodes the cuts have in all, and their greatest bound
unfoldable pub summary_bytes : ℕ → Summary → List ℕ
summary_bytes number summary =
    codes "lights " ++ decimal (light_count number) ++ codes " triangles " ++ decimal
    (triangle_count number) ++ codes " samples " ++ decimal sample_count
    ++ codes " cut " ++ decimal summary.sizes ++ codes "/" ++ decimal sample_count ++ codes " bound " ++ decimal summary.largest ++ codes "\n"

-- the line of the answers at the samples of the picture
abbrev pub summary_line : ℕ → List Answer → List ℕ
summary_line number answers = summary_bytes number (summary_of answers)
