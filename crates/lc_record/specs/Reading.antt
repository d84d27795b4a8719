-- What it is to be the text of a record, and where a text that is none first differs from each.
use Rattle.std.specs.Prelude.{◌≡◌, ◌≢◌, ◌⊎◌, ℕ, ◌*◌, ◌+◌, ◌<◌, List, [], ◌++◌, All, length, flat_map, Result, Err}
use Rattle.lc_num.specs.Faults.{Fault}
use Rattle.lc_rated.specs.declared.answer.Answer.{Answer}
use Rattle.lc_record.specs.declared.head.Header.{Header}
use Rattle.lc_record.specs.declared.fault_kind.FaultKind.{FaultKind}
use Rattle.lc_record.specs.declared.fault_kind.FaultKind.TheVariants as kind
use Rattle.lc_record.specs.declared.stop.RecordStop.{RecordStop}
use Rattle.lc_record.specs.declared.stop.RecordStop.TheVariants as stop
use Rattle.lc_record.specs.Record.{IsHeader, IsSample, record_header, line_bytes, text}

-- the bytes begin with the text of an allowed value
abbrev pub Begins : {A : Type 0} → (A → Type 0) → (A → List ℕ) → List ℕ → Type 0
Begins {A} IsAllowed written bytes = (a : A) × (rest : List ℕ) × IsAllowed a × (bytes ≡ written a ++ rest)

-- how many samples a header announces
abbrev pub samples : Header → ℕ
samples h = h.width * h.height * (h.grid * h.grid)

-- a record within its ranges, and its text
pub record IsTextOf (h : Header) (answers : List Answer) (bytes : List ℕ) : Type 0 where
  pub header : IsHeader h
  pub valid : All (IsSample h.cut) answers
  pub count : length answers ≡ samples h
  pub whole : bytes ≡ text h answers

-- the bytes begin with the lines of these answers, and the rest follows
pub record BeginsWithLines (h : Header) (answers : List Answer) (rest bytes : List ℕ) : Type 0 where
  pub valid : All (IsSample h.cut) answers
  pub lines : bytes ≡ flat_map line_bytes answers ++ rest

-- the numbers of the kinds of fault
abbrev pub kind_number : FaultKind → ℕ
kind_number kind.Header = 1
kind_number kind.Line = 2
kind_number kind.Count = 3

-- A fault after a header and so many lines. Lines are counted from 1, and the header is the first.
abbrev pub fault_after : ℕ → FaultKind → Fault
fault_after lines kind = record { line = lines + 2; kind = kind_number kind }

-- the first fault of the bytes after a header
pub data IsLineFault (h : Header) (bytes : List ℕ) (fault : Fault) : Type 0 where
  -- what stands in the place of a line is no line of a sample
  differs : (answers : List Answer) (rest : List ℕ) → BeginsWithLines h answers rest bytes
      → length answers < samples h → rest ≢ [] → (Begins (IsSample h.cut) line_bytes rest → ⊥)
      → fault ≡ fault_after (length answers) kind.Line → IsLineFault h bytes fault
  -- the bytes end before a line that should stand
  ends : (answers : List Answer) → BeginsWithLines h answers [] bytes → length answers < samples h
      → fault ≡ fault_after (length answers) kind.Count → IsLineFault h bytes fault
  -- the bytes go on after the last line
  goes_on : (answers : List Answer) (rest : List ℕ) → BeginsWithLines h answers rest bytes
      → length answers ≡ samples h → rest ≢ []
      → fault ≡ fault_after (length answers) kind.Count → IsLineFault h bytes fault

-- the first fault of the bytes
pub data IsFirstFault (bytes : List ℕ) (fault : Fault) : Type 0 where
  no_header : (Begins IsHeader record_header bytes → ⊥)
      → fault ≡ record { line = 1; kind = kind_number kind.Header } → IsFirstFault bytes fault
  after_header : (h : Header) (rest : List ℕ) → IsHeader h → bytes ≡ record_header h ++ rest
      → IsLineFault h rest fault → IsFirstFault bytes fault

-- a fault is one of these; want of memory is free
abbrev pub IsStop : RecordStop → (Fault → Type 0) → Type 0
IsStop stop.Memory IsFault = Unit {0}
IsStop (stop.Fault line kind) IsFault = IsFault (record { line = line; kind = kind })

-- this answer, unless memory runs out
abbrev pub OrMemory : {A : Type 0} → Result A RecordStop → Result A RecordStop → Type 0
OrMemory result answer = (result ≡ answer) ⊎ (result ≡ Err stop.Memory)
