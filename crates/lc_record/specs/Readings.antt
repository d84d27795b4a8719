-- What a text tells: the record that it is the text of, or its first fault.
use Rattle.std.specs.Prelude.{ℕ, zero, suc, ◌+◌, ◌*◌, ◌-◌, ◌^◌, List, [], ◌∷◌, map, flat_map, length, drop, find, nat_eq, Option, ok_or, Result, Ok, Err}
use Rattle.std.specs.List.{range_with_len, starts_with}
use Rattle.lc_num.specs.Faults.{Fault}
use Rattle.lc_num.specs.declared.channels.Rgb.{Rgb}
use Rattle.lc_num.specs.declared.rules.Rule.{Rule}
use Rattle.lc_num.specs.declared.rules.Rule.TheVariants as rule
use Rattle.lc_rated.specs.declared.answer.Answer.{Answer}
use Rattle.lc_record.specs.declared.head.Header.{Header}
use Rattle.lc_record.specs.declared.fault_kind.FaultKind.{FaultKind}
use Rattle.lc_record.specs.declared.fault_kind.FaultKind.TheVariants as kind
use Rattle.lc_record.specs.declared.reader.Record.{Record}
use Rattle.lc_record.specs.Record.{record_header, line_bytes}
use Rattle.lc_record.specs.Reading.{fault_after, kind_number, samples}

-- both rules
unfoldable pub both_rules : List Rule
both_rules = rule.One ∷ rule.Two ∷ []

-- the numbers from one to another
unfoldable pub from_to : ℕ → ℕ → List ℕ
from_to least most = range_with_len least (most + 1 - least)

-- every header within its ranges
unfoldable pub headers : List Header
headers =
    flat_map (λ r. flat_map (λ width. flat_map (λ height. flat_map (λ grid. flat_map (λ cut. map (λ permille.
    record { rule = r; width = width; height = height; grid = grid; cut = cut; permille = permille })
    (from_to 0 1000)) (from_to 3 65_536)) (from_to 1 16)) (from_to 1 4096)) (from_to 1 4096)) both_rules

-- every colour whose channels are at most `most`
unfoldable pub colours : ℕ → List Rgb
colours most =
    flat_map (λ r. flat_map (λ g. map (λ b.
    record { r = r; g = g; b = b }) (from_to 0 most)) (from_to 0 most)) (from_to 0 most)

-- every answer within the ranges of a cut
unfoldable pub answers : ℕ → List Answer
answers cut =
    flat_map (λ size. flat_map (λ evals. flat_map (λ est. map (λ bound.
    record { size = size; evals = evals; est = est; bound = bound })
    (colours (2 ^ 117 - 1))) (colours (2 ^ 117 - 1))) (from_to 0 (2 * cut))) (from_to 0 cut)

-- the first of these values whose text the bytes begin with; of headers and of answers there is at most one
abbrev pub told_by : {A : Type 0} → (A → List ℕ) → List A → List ℕ → Option A
told_by written values bytes = find (λ value. starts_with nat_eq bytes (written value)) values

-- the bytes after a text that they begin with
abbrev pub after : List ℕ → List ℕ → List ℕ
after begun bytes = drop (length begun) bytes

-- the kind of the fault where a line should stand and none does
abbrev pub missing : List ℕ → FaultKind
missing [] = kind.Count
missing (byte ∷ bytes) = kind.Line

-- what the value tells that was found, or the fault where there is none
abbrev pub and_then : {A B : Type 0} → Result A Fault → (A → Result B Fault) → Result B Fault
and_then (Ok value) next = next value
and_then (Err fault) next = Err fault

-- the answers of so many lines and of no more, or the first fault; `before` lines stand before
unfoldable pub lines_in : ℕ → ℕ → ℕ → List ℕ → Result (List Answer) Fault
lines_in zero before cut [] = Ok []
lines_in zero before cut (byte ∷ bytes) = Err (fault_after before kind.Count)
lines_in (suc left) before cut bytes =
    and_then (ok_or (told_by line_bytes (answers cut) bytes) (fault_after before (missing bytes))) (λ answer.
    and_then (lines_in left (before + 1) cut (after (line_bytes answer) bytes)) (λ others. Ok (answer ∷ others)))

-- the record that the bytes are the text of, or their first fault
unfoldable pub record_in : List ℕ → Result Record Fault
record_in bytes =
    and_then
    (ok_or (told_by record_header headers bytes) (record { line = 1; kind = kind_number kind.Header })) (λ header.
    and_then (lines_in (samples header) 0 header.cut (after (record_header header) bytes)) (λ lines.
    Ok (record { header = header; lines = lines })))
