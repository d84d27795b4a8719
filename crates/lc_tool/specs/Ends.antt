-- How a run ends: done, stopped before anything is written, or broken off while it is written.
use Rattle.std.specs.Prelude.{◌≡◌, ◌⊎◌, ℕ, ◌+◌, List, ◌++◌, map, Contains, Option, Some, None, IfSome, IfOk}
use Rattle.lc_desk.specs.Calls.{AreOn, Made, begins_of, slot_of}
use Rattle.lc_desk.specs.Causes.{Rose}
use Rattle.lc_desk.specs.Desk.{DeskState, Files, OnlyReads}
use Rattle.lc_desk.specs.Slots.{slot_at}
use Rattle.lc_desk.specs.declared.desk.Slot.{Slot}
use Rattle.lc_frame.specs.Stops.{StoppedIn}
use Rattle.lc_frame.specs.declared.stop.FrameStop.{FrameStop}
use Rattle.lc_frame.specs.declared.stop.FrameStop.TheVariants as frame
use Rattle.lc_tool.specs.declared.status.Stop.{Stop}
use Rattle.lc_tool.specs.declared.status.Status.{Status}
use Rattle.lc_tool.specs.declared.status.Status.TheVariants.{Done, Usage, Stopped, Unwritten}
use Rattle.lc_tool.specs.Course.{Course, told}
use Rattle.lc_tool.specs.Lines.{usage_line, memory_line, write_fault_line}
use Rattle.lc_tool.specs.Noted.{Said, Noted}
use Rattle.lc_tool.specs.Words.{Command, command_of}
use Rattle.lc_tool.specs.Work.{Work, calls_of}
use Rattle.lc_tool.specs.Outcome.{outcome, slots_of, status_of}
use Rattle.lc_tool.specs.Stopped.{Gave, NoReadCounted, ReadsFirst, StoppedBy, IsStopLine}
use Rattle.lc_tool.specs.Status.{code}

-- what is to be written was read off the files: nothing but reads came before, and all calls are on these slots
pub record Began (slots : List Slot) (course : Option (Course Work)) (work : Work)
    (before start : DeskState) : Type 0 where
  pub on : AreOn slots work.calls
  pub reads : OnlyReads before start
  pub counts : NoReadCounted before start
  pub told : IfSome course (Gave work before start)

-- all calls were made, and nothing else
pub record Finished (slots : List Slot) (course : Option (Course Work)) (before now : DeskState) : Type 0 where
  pub work : Work
  pub start : DeskState
  pub began : Began slots course work before start
  pub made : Made work.calls start now

-- the line of a refused begin or put
abbrev pub write_line : FrameStop → List ℕ
write_line frame.Memory = memory_line
write_line (frame.Write slot) = write_fault_line slot

-- the calls were made up to one that was refused, and Note has gained the line of that
pub record BrokenBy (stop : FrameStop) (slots : List Slot) (course : Option (Course Work))
    (before now : DeskState) : Type 0 where
  pub work : Work
  pub start : DeskState
  pub began : Began slots course work before start
  pub mid : DeskState
  pub broke : StoppedIn stop work.calls start mid
  pub noted : Noted (write_line stop) mid now
  pub asked : now.asked ≡ mid.asked

abbrev pub Ends : Status → List Slot → Option (Course Work) → DeskState → DeskState → Type 0
Ends Done slots course before now = Finished slots course before now
Ends Usage slots course before now = ⊥
Ends (Stopped stop) slots course before now = StoppedBy stop course before now
Ends (Unwritten stop) slots course before now = BrokenBy stop slots course before now

-- the same of a course over the files, where the desk tells them
abbrev pub EndsAs : Status → List Slot → (Files → Course Work) → DeskState → DeskState → Type 0
EndsAs status slots course before now = Ends status slots (told course before.held) before now

-- where all is done, the counter has risen by the evaluations
abbrev pub Counts : Status → Option (Course Work) → ℕ → ℕ → Type 0
Counts status course steps_before steps_now =
    status ≡ Done → IfSome course (λ c. IfOk c.end (λ w. steps_now ≡ steps_before + w.evals))

-- words that are no command: the usage line, and nothing is read
pub record Rejected (status : Status) (before now : DeskState) : Type 0 where
  pub usage : status ≡ Usage
  pub noted : Noted usage_line before now
  pub asked : now.asked ≡ before.asked

-- the run of a command, or of words that are none
abbrev pub Runs : Option Command → Status → Option (Course Work) → DeskState → DeskState → Type 0
Runs None status course before now = Rejected status before now
Runs (Some command) status course before now = Ends status (slots_of (Some command)) course before now

-- ---- a run by its words

-- all that the outcome gives is written, and nothing else
abbrev pub Does : List (List ℕ) → DeskState → DeskState → Type 0
Does words before now = Finished (slots_of (command_of words)) (outcome words before.held) before now

-- the run stopped before anything was written
abbrev pub Stops : List (List ℕ) → Stop → DeskState → DeskState → Type 0
Stops words stop before now = StoppedBy stop (outcome words before.held) before now

-- the run broke off while it wrote
abbrev pub Breaks : List (List ℕ) → FrameStop → DeskState → DeskState → Type 0
Breaks words stop before now = BrokenBy stop (slots_of (command_of words)) (outcome words before.held) before now

-- the count of faults of a slot that the command writes rose
abbrev pub HasFailed : List (List ℕ) → Slot → DeskState → DeskState → Type 0
HasFailed words slot before now =
    Contains (slots_of (command_of words)) slot × Rose (slot_at before.faults.puts slot) (slot_at now.faults.puts slot)

-- ---- what follows, by the number

-- no fault of a read or of a slot that the outcome writes was counted
pub record IsFaultless (course : Course Work) (before now : DeskState) : Type 0 where
  pub reads : ¬ Rose before.faults.reads now.faults.reads
  pub slots : (slot : Slot) → Contains (map slot_of (calls_of course.end)) slot
      → ¬ Rose (slot_at before.faults.puts slot) (slot_at now.faults.puts slot)

-- the status is that of the outcome, or there was no memory
abbrev pub IsComplete : List (List ℕ) → ℕ → DeskState → DeskState → Type 0
IsComplete words result before now =
    (course : Course Work) → outcome words before.held ≡ Some course → IsFaultless course before now
    → (result ≡ status_of course.end) ⊎ (result ≡ 1)

-- the form of a status's line
abbrev pub IsLineOf : Status → List ℕ → Type 0
IsLineOf Done line = ⊥
IsLineOf Usage line = line ≡ usage_line
IsLineOf (Stopped stop) line = IsStopLine stop line
IsLineOf (Unwritten stop) line = line ≡ write_line stop

-- Note has gained the line of this status, or a part of it where Note failed or found no memory
pub record HasLine (result : ℕ) (before now : DeskState) : Type 0 where
  pub status : Status
  pub number : result ≡ code status
  pub line : List ℕ
  pub form : IsLineOf status line
  pub said : Said line before now

-- the three outputs are as they were
pub record SameOutputs (before now : DeskState) : Type 0 where
  pub picture : now.slots.picture ≡ before.slots.picture
  pub bounds : now.slots.bounds ≡ before.slots.bounds
  pub report : now.slots.report ≡ before.slots.report

-- ---- what a run opens

-- the first of these begins were asked for, in order, and no others
pub record BeginsFirst (begins : List (Slot × List ℕ)) (before now : DeskState) : Type 0 where
  pub first : List (Slot × List ℕ)
  pub rest : List (Slot × List ℕ)
  pub split : begins ≡ first ++ rest
  pub begun : now.begins ≡ before.begins ++ first

-- of the files that the course reads the first were read, in order and each once, and of its begins the first were
-- asked for; no other name was read or begun
pub record OpensOnly (before now : DeskState) (course : Course Work) : Type 0 where
  pub reads : ReadsFirst course.reads before now
  pub begins : BeginsFirst (begins_of (calls_of course.end)) before now
