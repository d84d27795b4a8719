-- The first fault of a text, by a judge of its lines.
use Rattle.std.specs.Prelude.{ℕ, List, [], ◌∷◌, ◌++◌, Option, Some, None}
use Rattle.lc_num.specs.Faults.{Fault}
use Rattle.lc_scan.specs.Lines.{Line}
use Rattle.lc_scan.specs.Spoken.{spoken}

-- a line is judged by itself and the list of lines before it: the kind of its fault, if it has one
abbrev pub Judge : Type 0
Judge = List Line → Line → Option ℕ

abbrev pub fault_then : Option ℕ → ℕ → Option Fault → Option Fault
fault_then (Some kind) number later = Some (record { line = number; kind = kind })
fault_then None number later = later

-- the fault of the first faulty one of these lines, after those before
unfoldable pub first_fault : Judge → List Line → List Line → Option Fault
first_fault judge before [] = None
first_fault judge before (l ∷ later) = fault_then (judge before l) l.number (first_fault judge (before ++ l ∷ []) later)

-- the first fault of a text
abbrev pub fault_in : Judge → List ℕ → Option Fault
fault_in judge text = first_fault judge [] (spoken text)
