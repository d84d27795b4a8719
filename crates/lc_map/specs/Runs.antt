-- How a run ends, by its status.
use Rattle.std.specs.Prelude.{◌≡◌, ◌⊎◌, ℕ, List, Option, Some, None}
use Rattle.lc_desk.specs.Causes.{Rose}
use Rattle.lc_desk.specs.Desk.{DeskState}
use Rattle.lc_frame.specs.Files.{picture_file}
use Rattle.lc_frame.specs.declared.stop.FrameStop.{FrameStop}
use Rattle.lc_tool.specs.Course.{Course}
use Rattle.lc_tool.specs.Ends.{BrokenBy, Ends, Finished, write_line}
use Rattle.lc_tool.specs.Noted.{Noted, Said}
use Rattle.lc_tool.specs.Outcome.{status_of}
use Rattle.lc_tool.specs.Status.{code}
use Rattle.lc_tool.specs.Stopped.{IsStopLine, StoppedBy}
use Rattle.lc_tool.specs.Work.{Work}
use Rattle.lc_tool.specs.declared.status.Status.{Status}
use Rattle.lc_tool.specs.declared.status.Status.TheVariants.{Done, Usage, Stopped, Unwritten}
use Rattle.lc_tool.specs.declared.status.Stop.{Stop}
use Rattle.lc_map.specs.Outcome.{outcome, usage_line}
use Rattle.lc_map.specs.Words.{Order}

-- words that are no order: the usage line, and nothing is read or begun
pub record Rejected (status : Status) (before now : DeskState) : Type 0 where
  pub usage : status ≡ Usage
  pub noted : Noted usage_line before now
  pub asked : now.asked ≡ before.asked

-- the run of an order, or of words that are none
abbrev pub Runs : Option Order → Status → Option (Course Work) → DeskState → DeskState → Type 0
Runs None status course before now = Rejected status before now
Runs (Some order) status course before now = Ends status picture_file course before now

-- ---- a run by its words

-- the begin and the puts of the outcome were made, and nothing else
abbrev pub Does : List (List ℕ) → DeskState → DeskState → Type 0
Does words before now = Finished picture_file (outcome words before.held) before now

-- the run stopped before the picture was begun
abbrev pub Stops : List (List ℕ) → Stop → DeskState → DeskState → Type 0
Stops words stop before now = StoppedBy stop (outcome words before.held) before now

-- the run broke off while it wrote the picture
abbrev pub Breaks : List (List ℕ) → FrameStop → DeskState → DeskState → Type 0
Breaks words stop before now = BrokenBy stop picture_file (outcome words before.held) before now

-- the count of the picture's faults rose
abbrev pub PictureFailed : DeskState → DeskState → Type 0
PictureFailed before now = Rose before.faults.puts.picture now.faults.puts.picture

-- no fault of a read or of the picture was counted
pub record NoFaultCounted (before now : DeskState) : Type 0 where
  pub reads : ¬ Rose before.faults.reads now.faults.reads
  pub picture : ¬ PictureFailed before now

-- the number of the status is that of the outcome, or there was no memory
abbrev pub IsComplete : List (List ℕ) → Status → DeskState → DeskState → Type 0
IsComplete words status before now =
    (course : Course Work) → outcome words before.held ≡ Some course → NoFaultCounted before now
    → (code status ≡ status_of course.end) ⊎ (code status ≡ 1)

-- ---- the line on Note

-- the form of a status's line
abbrev pub IsLineOf : Status → List ℕ → Type 0
IsLineOf Done line = ⊥
IsLineOf Usage line = line ≡ usage_line
IsLineOf (Stopped stop) line = IsStopLine stop line
IsLineOf (Unwritten stop) line = line ≡ write_line stop

-- Note has gained the line of this status, or a part of it where Note failed or found no memory
pub record HasLine (status : Status) (before now : DeskState) : Type 0 where
  pub line : List ℕ
  pub form : IsLineOf status line
  pub said : Said line before now
