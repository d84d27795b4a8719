-- What a desk in memory is to its users, and what each of its calls answers.
use Rattle.std.specs.Prelude.{ℕ, ◌==◌, List, [], ◌∷◌, Bool, true, false, Option, Some, None, option_map, option_and_then, find, length, is_some, if◌then◌else◌, nat_lt}
use Rattle.std.specs.String.{string_bytes}
use Rattle.std.specs.BTreeMap.{get_by_text}
use Rattle.lc_desk.specs.Causes.{raised}
use Rattle.lc_desk.specs.declared.desk.ReadStop.{ReadStop}
use Rattle.lc_desk.specs.declared.desk.ReadStop.TheVariants.{Absent, Long, Failed}
use Rattle.lc_desk.specs.Desk.{DeskState, SlotState, Files, no_faults}
use Rattle.lc_desk.specs.Slots.{alike, each}
use Rattle.lc_desk.specs.declared.kept.Kept.{Kept}
use Rattle.lc_desk.specs.declared.memory.Failure.{Failure}
use Rattle.lc_desk.specs.declared.memory.MemoryDesk.{MemoryDesk}

-- a desk in memory, as its users see it
pub record MemoryState : Type 0 where
  -- what it tells as a desk
  pub desk : DeskState
  -- how many calls of read, begin and put it has had
  pub calls : ℕ
  -- of each call that is to fail, how many bytes of a piece it takes
  pub taken : ℕ → Option ℕ

abbrev pub kept_state : Kept → SlotState
kept_state k = record { out = Some k.bytes.items; named = option_map string_bytes k.name; begun = k.begun }

abbrev pub is_empty_list : List Failure → Bool
is_empty_list [] = true
is_empty_list (f ∷ fs) = false

-- of several entries for one call the first counts
abbrev pub taken_at : ℕ → List Failure → Option ℕ
taken_at call failing = option_map (λ f. f.taken) (find (λ f. f.call == call) failing)

abbrev pub memory_files : MemoryDesk → Files
memory_files d name = option_map (λ v. v.items) (get_by_text d.files name)

abbrev pub memory_state : MemoryDesk → DeskState
memory_state d = record {
  held = Some (memory_files d);
  slots = each kept_state d.slots;
  faults = record { reads = d.read_faults; puts = each (λ k. k.faults) d.slots };
  absents = d.absents;
  longs = d.longs;
  shorts = d.shorts;
  steady = is_empty_list d.failing.items;
  asked = d.log.asked;
  begins = d.log.begins;
}

abbrev pub memory_view : MemoryDesk → MemoryState
memory_view d = record { desk = memory_state d; calls = d.calls; taken = λ call. taken_at call d.failing.items }

abbrev pub empty_slot : SlotState
empty_slot = record { out = Some []; named = None; begun = false }

-- no files, empty slots that are neither begun nor named, all counts 0, no call to fail, nothing asked
abbrev pub empty_state : DeskState
empty_state = record {
  held = Some (λ name. None);
  slots = alike empty_slot;
  faults = no_faults;
  absents = 0;
  longs = 0;
  shorts = 0;
  steady = true;
  asked = [];
  begins = [];
}

-- a new desk, before its first call
abbrev pub empty_view : MemoryState
empty_view = record { desk = empty_state; calls = 0; taken = λ call. None }

-- the file of this name
abbrev pub file_of : MemoryState → List ℕ → Option (List ℕ)
file_of s name = option_and_then (λ files. files name) s.desk.held

-- the number of the next call: calls are counted from 1, and the last number stays
abbrev pub next_call : MemoryState → ℕ
next_call s = raised s.calls

-- how much of a piece the next call takes, where it is to fail
abbrev pub taken_next : MemoryState → Option ℕ
taken_next s = s.taken (next_call s)

-- one call more, which does this to what the desk tells
abbrev pub called : (DeskState → DeskState) → MemoryState → MemoryState
called effect s = record s { desk = effect s.desk; calls = next_call s }

-- a file that is not there, or that has more than limit bytes
abbrev pub file_stop : ℕ → Option (List ℕ) → Option ReadStop
file_stop limit None = Some Absent
file_stop limit (Some bytes) = if nat_lt limit (length bytes) then Some Long else None

-- what stops the next read, but for want of memory
abbrev pub read_stop : MemoryState → List ℕ → ℕ → Option ReadStop
read_stop s name limit = if is_some (taken_next s) then Some Failed else file_stop limit (file_of s name)

-- the first, or else the second
abbrev pub or_else : Option ℕ → Option ℕ → Option ℕ
or_else None b = b
or_else (Some a) b = Some a
