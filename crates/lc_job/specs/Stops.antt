-- Why a text is refused. Want of memory is free everywhere.
use Rattle.std.specs.Prelude.{◌≡◌, ℕ, Option, Some}
use Rattle.lc_num.specs.Faults.{Fault}
use Rattle.lc_job.specs.FaultKinds.{kind_number}
use Rattle.lc_job.specs.declared.fault_kind.FaultKind.{FaultKind}
use Rattle.lc_job.specs.declared.stop.JobStop.{JobStop}
use Rattle.lc_job.specs.declared.stop.JobStop.TheVariants as stop
use Rattle.lc_job.specs.declared.stop.LineStop.{LineStop}
use Rattle.lc_job.specs.declared.stop.LineStop.TheVariants as line_stop

-- a fault is this one
abbrev pub IsFault : JobStop → Option JobStop → Type 0
IsFault stop.Memory first = Unit {0}
IsFault (stop.Fault line kind) first = first ≡ Some (stop.Fault line kind)
IsFault (stop.Missing k) first = Unit {0}

-- a missing keyword is this one
abbrev pub IsMissing : JobStop → Option JobStop → Type 0
IsMissing stop.Memory first = Unit {0}
IsMissing (stop.Fault line kind) first = Unit {0}
IsMissing (stop.Missing k) first = first ≡ Some (stop.Missing k)

-- ---- clauses of private functions alone speak of the following

-- the fault of a line is the first one
abbrev pub IsOfLine : JobStop → Option Fault → Type 0
IsOfLine stop.Memory fault = Unit {0}
IsOfLine (stop.Fault line kind) fault = fault ≡ Some (record { line = line; kind = kind })
IsOfLine (stop.Missing k) fault = ⊥

-- a line's fault is its first one
abbrev pub IsLineStop : LineStop → Option FaultKind → Type 0
IsLineStop line_stop.Memory kind = Unit {0}
IsLineStop (line_stop.Fault own) kind = kind ≡ Some own

abbrev pub stop_at : ℕ → LineStop → JobStop
stop_at line line_stop.Memory = stop.Memory
stop_at line (line_stop.Fault own) = stop.Fault line (kind_number own)
