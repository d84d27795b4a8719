-- A stop before anything is written, with its cause.
use Rattle.std.specs.Prelude.{◌≡◌, ◌⊎◌, ℕ, List, ◌++◌, Contains, Option, IfSome, Result, Ok, IfOk, IfErr}
use Rattle.lc_desk.specs.Causes.{Rose}
use Rattle.lc_desk.specs.Desk.{DeskState, Files, OnlyReads}
use Rattle.lc_job.specs.declared.key.Key.{Key}
use Rattle.lc_audit.specs.declared.verdict.Miss.{Miss}
use Rattle.lc_tool.specs.declared.status.Source.{Source}
use Rattle.lc_tool.specs.declared.status.Source.TheVariants as source
use Rattle.lc_tool.specs.declared.status.Stop.{Stop}
use Rattle.lc_tool.specs.declared.status.Stop.TheVariants.{Memory, Faulty, Absent, ReadFault, Long, Refuted}
use Rattle.lc_tool.specs.Course.{Course, refuses, told}
use Rattle.lc_tool.specs.Status.{stop_code}
use Rattle.lc_tool.specs.Lines.{memory_line, absent_line, read_fault_line, long_line, fault_line, missing_line}
use Rattle.lc_tool.specs.Lines.{miss_line}
use Rattle.lc_tool.specs.Noted.{Noted}

-- ---- what was read

-- exactly these names were read, in order
abbrev pub Reads : List (List ℕ) → DeskState → DeskState → Type 0
Reads names before now = now.asked ≡ before.asked ++ names

-- the first of these names were read, in order, and no others
pub record ReadsFirst (names : List (List ℕ)) (before now : DeskState) : Type 0 where
  pub first : List (List ℕ)
  pub rest : List (List ℕ)
  pub split : names ≡ first ++ rest
  pub read : Reads first before now

-- a course that is told gave this value, and its files were read
pub record Gave {A : Type 0} (a : A) (before now : DeskState) (course : Course A) : Type 0 where
  pub end : course.end ≡ Ok a
  pub read : Reads course.reads before now

-- no read was counted as absent, as too long or as a fault
pub record NoReadCounted (before now : DeskState) : Type 0 where
  pub faults : now.faults.reads ≡ before.faults.reads
  pub absents : now.absents ≡ before.absents
  pub longs : now.longs ≡ before.longs

-- a step went well: it gave what its course gives, it read the course's files, and did nothing else
pub record Went {A : Type 0} (course : Option (Course A)) (a : A) (before now : DeskState) : Type 0 where
  pub reads : OnlyReads before now
  pub counts : NoReadCounted before now
  pub told : IfSome course (Gave a before now)

-- ---- stops

-- a text's first fault, or a required keyword that a job lacks
abbrev pub IsFaultLine : Source → List ℕ → Type 0
IsFaultLine source.Job line =
    (name : List ℕ) × (((n : ℕ) × (kind : ℕ) × (line ≡ fault_line name n kind))
    ⊎ ((key : Key) × (line ≡ missing_line name key)))
IsFaultLine source.Scene line = (name : List ℕ) × (n : ℕ) × (kind : ℕ) × (line ≡ fault_line name n kind)
IsFaultLine source.Library line = (name : List ℕ) × (n : ℕ) × (kind : ℕ) × (line ≡ fault_line name n kind)
IsFaultLine source.Lights line = (name : List ℕ) × (n : ℕ) × (kind : ℕ) × (line ≡ fault_line name n kind)
IsFaultLine source.Record line = (name : List ℕ) × (n : ℕ) × (kind : ℕ) × (line ≡ fault_line name n kind)

-- the form of a stop's line
abbrev pub IsStopLine : Stop → List ℕ → Type 0
IsStopLine Memory line = line ≡ memory_line
IsStopLine (Faulty text) line = IsFaultLine text line
IsStopLine Absent line = (name : List ℕ) × (line ≡ absent_line name)
IsStopLine ReadFault line = (name : List ℕ) × (line ≡ read_fault_line name)
IsStopLine Long line = (name : List ℕ) × (limit : ℕ) × (line ≡ long_line limit name)
IsStopLine Refuted line = (miss : Miss) × (line ≡ miss_line miss)

-- the count that a stop rests on rose; want of memory is told only where no read was refused for another reason
abbrev pub HasCause : Stop → DeskState → DeskState → Type 0
HasCause Memory before now = NoReadCounted before now
HasCause (Faulty text) before now = Unit {0}
HasCause Absent before now = Rose before.absents now.absents
HasCause ReadFault before now = Rose before.faults.reads now.faults.reads
HasCause Long before now = Rose before.longs now.longs
HasCause Refuted before now = Unit {0}

-- the file on the line is read, and nothing is refused before it
pub record Reaches {A : Type 0} (line : List ℕ) (course : Course A) : Type 0 where
  pub name : List ℕ
  pub named : line ≡ read_fault_line name
  pub read : Contains course.reads name

-- the course refuses with this status and this line, and its files were read
pub record RefusedBy {A : Type 0} (status : ℕ) (line : List ℕ) (before now : DeskState)
    (course : Course A) : Type 0 where
  pub end : course.end ≡ refuses status line
  pub read : Reads course.reads before now

-- the file on the line is one that the course reads, and files were read up to it at most
pub record BrokenAt {A : Type 0} (line : List ℕ) (before now : DeskState) (course : Course A) : Type 0 where
  pub reached : Reaches line course
  pub read : ReadsFirst course.reads before now

-- what a stop says of the course, where it is told
abbrev pub Refuses : {A : Type 0} → Stop → List ℕ → DeskState → DeskState → Course A → Type 0
Refuses Memory line before now course = ReadsFirst course.reads before now
Refuses (Faulty text) line before now course = RefusedBy (stop_code (Faulty text)) line before now course
Refuses Absent line before now course = RefusedBy 7 line before now course
Refuses ReadFault line before now course = BrokenAt line before now course
Refuses Long line before now course = RefusedBy 10 line before now course
Refuses Refuted line before now course = RefusedBy 11 line before now course

-- the run stopped before anything was written, and Note has gained the stop's line
pub record StoppedBy {A : Type 0} (stop : Stop) (course : Option (Course A)) (before now : DeskState) : Type 0 where
  pub line : List ℕ
  pub form : IsStopLine stop line
  pub cause : HasCause stop before now
  pub told : IfSome course (Refuses stop line before now)
  pub noted : Noted line before now

-- ---- what a step answers

-- it gives what its course gives, where it gives a value
abbrev pub GoesAs : {A : Type 0} → Result A Stop → Option (Course A) → DeskState → DeskState → Type 0
GoesAs result course before now = IfOk result (λ a. Went course a before now)

-- it stops by its course, where it stops
abbrev pub StopsAs : {A B : Type 0} → Result A Stop → Option (Course B) → DeskState → DeskState → Type 0
StopsAs result course before now = IfErr result (λ stop. StoppedBy stop course before now)

-- the same of a course over the files, where the desk tells them
abbrev pub ReadsAs : {A : Type 0} → Result A Stop → (Files → Course A) → DeskState → DeskState → Type 0
ReadsAs result course before now = GoesAs result (told course before.held) before now

abbrev pub StopsReading : {A B : Type 0} → Result A Stop → (Files → Course B) → DeskState → DeskState → Type 0
StopsReading result course before now = StopsAs result (told course before.held) before now
