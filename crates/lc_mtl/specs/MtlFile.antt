-- The materials of a text, and its first fault.
use Rattle.std.specs.Prelude.{◌≡◌, ℕ, Bool, true, false, not, List, [], ◌∷◌, ◌++◌, count_by, filter_map, take_while, Option, Some, None, option_map, if◌then◌else◌}
use Rattle.lc_num.specs.Faults.{Fault}
use Rattle.lc_scan.specs.Lines.{Line}
use Rattle.lc_scan.specs.Spoken.{spoken}
use Rattle.lc_scan.specs.Fields.{fields, rest}
use Rattle.lc_scan.specs.Faults as faults
use Rattle.lc_mtl.specs.FaultKinds.{kind_number}
use Rattle.lc_mtl.specs.Settings.{material}
use Rattle.lc_mtl.specs.MtlLine.{entry_of, kind_of}
use Rattle.lc_mtl.specs.declared.entry.Entry.{Entry}
use Rattle.lc_mtl.specs.declared.entry.Entry.TheVariants as entry
use Rattle.lc_mtl.specs.declared.entry.Setting.{Setting}
use Rattle.lc_mtl.specs.declared.material.Material.{Material}
use Rattle.lc_mtl.specs.declared.stop.MtlStop.{MtlStop}
use Rattle.lc_mtl.specs.declared.stop.MtlStop.TheVariants as stop

-- what a line says, if anything, begins a material
abbrev pub is_begin : Option Entry → Bool
is_begin None = false
is_begin (Some entry.Begin) = true
is_begin (Some (entry.Set setting)) = false

-- what a line says of the material in force, if it does
abbrev pub setting_of : Option Entry → Option Setting
setting_of None = None
setting_of (Some entry.Begin) = None
setting_of (Some (entry.Set setting)) = Some setting

-- the line begins a material
abbrev pub begins : Line → Bool
begins l = is_begin (entry_of (fields l.bytes))

-- what these lines say of the material in force, in their order
abbrev pub settings : List Line → List Setting
settings ls = filter_map (λ (l : Line). setting_of (entry_of (fields l.bytes))) ls

-- the lines up to the next one that begins a material
abbrev pub block : List Line → List Line
block ls = take_while (λ (l : Line). not (begins l)) ls

-- the materials of lines without a fault
unfoldable pub materials_in : List Line → List Material
materials_in [] = []
materials_in (l ∷ later) =
    if begins l
    then material (rest l.bytes) (settings (block later)) ∷ materials_in later
    else materials_in later

-- the materials of a text after those before
unfoldable pub materials : List Material → List ℕ → List Material
materials before text = before ++ materials_in (spoken text)

-- a line is judged by itself and by the number of materials before the text and of those that lines before it begin
abbrev pub fault_of : ℕ → List Line → Line → Option ℕ
fault_of held before l = option_map kind_number (kind_of held (count_by begins before) (rest l.bytes) (fields l.bytes))

-- the fault of the first faulty line of a text
unfoldable pub fault_in : ℕ → List ℕ → Option Fault
fault_in held text = faults.fault_in (fault_of held) text

-- a fault is the first one; want of memory is free
abbrev pub IsStop : MtlStop → Option Fault → Type 0
IsStop stop.Memory fault = Unit {0}
IsStop (stop.Fault line kind) fault = fault ≡ Some (record { line = line; kind = kind })
