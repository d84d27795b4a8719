-- The lines of Note.
use Rattle.std.specs.Prelude.{ℕ, List, ◌++◌, codes, decimal}
use Rattle.lc_desk.specs.declared.desk.Slot.{Slot}
use Rattle.lc_desk.specs.declared.desk.Slot.TheVariants.{Picture, Bounds, Report, Note}
use Rattle.lc_job.specs.Keys.{word}
use Rattle.lc_job.specs.declared.key.Key.{Key}
use Rattle.lc_audit.specs.Verdicts.{channel_number}
use Rattle.lc_audit.specs.declared.verdict.Miss.{Miss}

abbrev pub memory_line : List ℕ
memory_line = codes "out of memory\n"

abbrev pub usage_line : List ℕ
usage_line = codes "usage: lightcuts probe LIGHTS X Y Z NX NY NZ | render JOB | plain JOB | audit JOB STEP | make N\n"

abbrev pub fault_line : List ℕ → ℕ → ℕ → List ℕ
fault_line name line kind = name ++ (codes ": line " ++ decimal line ++ codes ": kind " ++ decimal kind ++ codes "\n")

-- a required keyword of a job that is missing
abbrev pub missing_line : List ℕ → Key → List ℕ
missing_line name key = name ++ (codes ": line 0: kind 5: " ++ word key ++ codes "\n")

abbrev pub absent_line : List ℕ → List ℕ
absent_line name = name ++ codes ": absent\n"

abbrev pub read_fault_line : List ℕ → List ℕ
read_fault_line name = name ++ codes ": read fault\n"

abbrev pub slot_word : Slot → List ℕ
slot_word Picture = codes "picture:"
slot_word Bounds = codes "bounds:"
slot_word Report = codes "report:"
slot_word Note = codes "note:"

abbrev pub write_fault_line : Slot → List ℕ
write_fault_line slot = slot_word slot ++ codes " write fault\n"

-- the limit of each file but a record, in bytes
abbrev pub file_limit : ℕ
file_limit = 134217728

-- the limit of a record
abbrev pub record_limit : ℕ
record_limit = 536870912

abbrev pub long_line : ℕ → List ℕ → List ℕ
long_line limit name = name ++ (codes ": longer than " ++ decimal limit ++ codes " bytes\n")

-- a sample and a channel, with the sum over all lights, the estimate and the bound there
unfoldable pub miss_words : Miss → List ℕ
miss_words miss =
    codes " sample " ++ decimal miss.sample ++ codes " channel " ++ decimal
    (channel_number miss.channel) ++ codes " plain " ++ decimal miss.plain
    ++ codes " est " ++ decimal miss.est ++ codes " bound " ++ decimal miss.bound ++ codes "\n"

-- the first sample and channel where a recorded bound does not hold
abbrev pub miss_line : Miss → List ℕ
miss_line miss = codes "audit:" ++ miss_words miss
