-- The files of a render, and what a refusal leaves of them.
use Rattle.std.specs.Prelude.{◌≡◌, ◌⊎◌, ℕ, List, [], ◌∷◌}
use Rattle.lc_desk.specs.declared.desk.Slot.{Slot}
use Rattle.lc_desk.specs.declared.desk.Slot.TheVariants.{Picture, Bounds}
use Rattle.lc_desk.specs.Desk.{SlotState, TookPart, opened}

-- the slots that a render writes
abbrev pub files : List Slot
files = Picture ∷ Bounds ∷ []

-- the slot that a picture alone writes
abbrev pub picture_file : List Slot
picture_file = Picture ∷ []

-- the file is as it was, or was begun under the name and has a first part of the bytes
abbrev pub LeftPart : List ℕ → List ℕ → SlotState → SlotState → Type 0
LeftPart name bytes before now = (now ≡ before) ⊎ TookPart bytes (opened name before) now
