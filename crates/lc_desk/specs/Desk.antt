-- What a desk tells of itself, and what its calls do to that.
use Rattle.std.specs.Prelude.{◌≡◌, ◌≤◌, ◌++◌, ℕ, List, [], take, Bool, true, IsTrue, Option, IfSome, option_map}
use Rattle.lc_desk.specs.declared.desk.Slot.{Slot}
use Rattle.lc_desk.specs.declared.desk.Slot.TheVariants.{Picture, Bounds, Report, Note}
use Rattle.lc_desk.specs.declared.per_slot.PerSlot.{PerSlot}
use Rattle.lc_desk.specs.Slots.{alike, slot_at, with_slot}

-- the bytes of a file, by its name
abbrev pub Files : Type 0
Files = List ℕ → Option (List ℕ)

-- one slot: the bytes that it holds, the name of its last begin, and whether a begin was answered Ok
pub record SlotState : Type 0 where
  pub out : Option (List ℕ)
  pub named : Option (List ℕ)
  pub begun : Bool

abbrev pub Slots : Type 0
Slots = PerSlot SlotState

-- how many reads failed, and how many begins and puts of each slot
pub record Faults : Type 0 where
  pub reads : ℕ
  pub puts : PerSlot ℕ

abbrev pub no_faults : Faults
no_faults = record { reads = 0; puts = alike 0 }

pub record DeskState : Type 0 where
  pub held : Option Files
  pub slots : Slots
  pub faults : Faults
  pub absents : ℕ
  pub longs : ℕ
  pub shorts : ℕ
  -- no call of it ever fails
  pub steady : Bool
  -- the names that it was asked to read, in order
  pub asked : List (List ℕ)
  -- the slots that it was asked to begin, each with its name, in order
  pub begins : List (Slot × List ℕ)

-- a slot that was begun, or Report or Note
abbrev pub CanPut : Slots → Slot → Type 0
CanPut s Picture = IsTrue s.picture.begun
CanPut s Bounds = IsTrue s.bounds.begun
CanPut s Report = Unit {0}
CanPut s Note = Unit {0}

-- empty, and begun under this name, where the slot is told
abbrev pub opened : List ℕ → SlotState → SlotState
opened name s = record { out = option_map (λ _. []) s.out; named = option_map (λ _. name) s.out; begun = true }

-- with these bytes more
abbrev pub appended : List ℕ → SlotState → SlotState
appended piece s = record s { out = option_map (λ held. held ++ piece) s.out }

-- the slot has a part of the piece more
pub record TookPart (piece : List ℕ) (before now : SlotState) : Type 0 where
  pub count : ℕ
  pub held : now ≡ appended (take count piece) before

-- what every call keeps: the files, whether the desk can fail, and no count falls
pub record Later (before now : DeskState) : Type 0 where
  pub held : now.held ≡ before.held
  pub steady : now.steady ≡ before.steady
  pub reads : before.faults.reads ≤ now.faults.reads
  pub puts : (slot : Slot) → slot_at before.faults.puts slot ≤ slot_at now.faults.puts slot
  pub absents : before.absents ≤ now.absents
  pub longs : before.longs ≤ now.longs
  pub shorts : before.shorts ≤ now.shorts
  -- a desk with no call to fail counts no fault
  pub no_fault : IsTrue before.steady → now.faults ≡ before.faults

-- what a read may change: the count of faults for reads, the counts that belong to no slot, and what it was asked to
-- read
pub record OnlyReads (before now : DeskState) : Type 0 where
  pub later : Later before now
  pub slots : now.slots ≡ before.slots
  pub faults : now.faults ≡ record before.faults { reads = now.faults.reads }
  pub begins : now.begins ≡ before.begins

-- what a begin or a put may change: its slot, the slot's count of faults, the counts that belong to no slot, and what
-- it was asked to begin
pub record OnlySlot (slot : Slot) (before now : DeskState) : Type 0 where
  pub later : Later before now
  pub slots : now.slots ≡ with_slot before.slots slot (slot_at now.slots slot)
  pub faults : now.faults
      ≡ record before.faults { puts = with_slot before.faults.puts slot (slot_at now.faults.puts slot) }
  pub asked : now.asked ≡ before.asked

-- over a desk that tells its files, the file of this name is so
abbrev pub Told : Option Files → List ℕ → (Option (List ℕ) → Type 0) → Type 0
Told held name P = IfSome held (λ files. P (files name))
