-- What each answer of a call does to what a desk tells.
use Rattle.std.specs.Prelude.{◌≡◌, ℕ, List, [], ◌∷◌, ◌++◌, Option, Some, None, Result, Ok, Err, take}
use Rattle.lc_desk.specs.Causes.{raised}
use Rattle.lc_desk.specs.declared.desk.Slot.{Slot}
use Rattle.lc_desk.specs.declared.desk.ReadStop.{ReadStop}
use Rattle.lc_desk.specs.declared.desk.ReadStop.TheVariants as read_stop
use Rattle.lc_desk.specs.declared.desk.PutStop.{PutStop}
use Rattle.lc_desk.specs.declared.desk.PutStop.TheVariants as put_stop
use Rattle.lc_desk.specs.Desk.{DeskState, SlotState, opened, appended}
use Rattle.lc_desk.specs.Slots.{slot_at, with_slot}

-- a refused read raises the one count of its cause, and want of memory none
abbrev pub counts_after : {T : Type 0} → Result T ReadStop → DeskState → DeskState
counts_after (Ok _) d = d
counts_after (Err read_stop.Absent) d = record d { absents = raised d.absents }
counts_after (Err read_stop.Long) d = record d { longs = raised d.longs }
counts_after (Err read_stop.Failed) d = record d { faults = record d.faults { reads = raised d.faults.reads } }
counts_after (Err read_stop.Memory) d = d

-- a read changes the counts, and was asked for this name
abbrev pub after_read : {T : Type 0} → Result T ReadStop → List ℕ → DeskState → DeskState
after_read result name d = record (counts_after result d) { asked = d.asked ++ name ∷ [] }

-- a read raises the one count of its cause by one, and no other
pub record CountsRead {T : Type 0} (result : Result T ReadStop) (before now : DeskState) : Type 0 where
  pub faults : now.faults ≡ (counts_after result before).faults
  pub absents : now.absents ≡ (counts_after result before).absents
  pub longs : now.longs ≡ (counts_after result before).longs
  pub shorts : now.shorts ≡ before.shorts

-- a slot's count of faults rises by one where a begin or a put of it answers Failed
abbrev pub faults_after : {T : Type 0} → Result T PutStop → ℕ → ℕ
faults_after (Ok _) n = n
faults_after (Err put_stop.Failed) n = raised n
faults_after (Err put_stop.Memory) n = n

-- the count of wants of memory rises by one where a begin or a put answers Memory
abbrev pub shorts_after : {T : Type 0} → Result T PutStop → ℕ → ℕ
shorts_after (Ok _) n = n
shorts_after (Err put_stop.Failed) n = n
shorts_after (Err put_stop.Memory) n = raised n

-- a begin or a put of the slot raises the one count of its cause by one, and no other
pub record CountsPut {T : Type 0} (result : Result T PutStop) (slot : Slot) (before now : DeskState) : Type 0 where
  pub faults : now.faults
      ≡ record before.faults {
        puts = with_slot before.faults.puts slot
            (faults_after result (slot_at before.faults.puts slot));
      }
  pub shorts : now.shorts ≡ shorts_after result before.shorts
  pub absents : now.absents ≡ before.absents
  pub longs : now.longs ≡ before.longs

-- a begin that is answered Ok opens the slot
abbrev pub slot_after_begin : {T : Type 0} → Result T PutStop → List ℕ → SlotState → SlotState
slot_after_begin (Ok _) name s = opened name s
slot_after_begin (Err _) name s = s

-- a put appends what it takes, but for want of memory
abbrev pub slot_after_put : {T : Type 0} → Result T PutStop → List ℕ → SlotState → SlotState
slot_after_put (Ok _) part s = appended part s
slot_after_put (Err put_stop.Failed) part s = appended part s
slot_after_put (Err put_stop.Memory) part s = s

-- a begin changes its slot, the slot's count of faults and the count of wants of memory, and was asked for
abbrev pub after_begin : {T : Type 0} → Result T PutStop → Slot → List ℕ → DeskState → DeskState
after_begin result slot name d = record d {
  slots = with_slot d.slots slot (slot_after_begin result name (slot_at d.slots slot));
  faults = record d.faults { puts = with_slot d.faults.puts slot (faults_after result (slot_at d.faults.puts slot)) };
  shorts = shorts_after result d.shorts;
  begins = d.begins ++ (slot, name) ∷ [];
}

-- a put that takes this part changes its slot and the same two counts
abbrev pub after_put : {T : Type 0} → Result T PutStop → Slot → List ℕ → DeskState → DeskState
after_put result slot part d = record d {
  slots = with_slot d.slots slot (slot_after_put result part (slot_at d.slots slot));
  faults = record d.faults { puts = with_slot d.faults.puts slot (faults_after result (slot_at d.faults.puts slot)) };
  shorts = shorts_after result d.shorts;
}

-- what a put takes of its piece: the first bytes where it is to fail, else all
abbrev pub part_of : Option ℕ → List ℕ → List ℕ
part_of None piece = piece
part_of (Some count) piece = take count piece
