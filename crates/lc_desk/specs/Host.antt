-- What the desk of the system tells: which slots were begun, its counts and what it was asked, but no contents.
use Rattle.std.specs.Prelude.{◌≡◌, ℕ, List, [], Bool, false, Option, None, Some, take}
use Rattle.std.specs.Io.KnownBytes.{Appends}
use Rattle.lc_desk.specs.Desk.{DeskState, SlotState, no_faults}
use Rattle.lc_desk.specs.Slots.{alike, each}
use Rattle.lc_desk.specs.declared.tally.Tally.{Tally}

abbrev pub untold : Bool → SlotState
untold begun = record { out = None; named = None; begun = begun }

abbrev pub tally_state : Tally → DeskState
tally_state t = record {
  held = None;
  slots = each (λ s. untold s.begun) t.slots;
  faults = record { reads = t.reads; puts = each (λ s. s.faults) t.slots };
  absents = t.absents;
  longs = t.longs;
  shorts = t.shorts;
  steady = false;
  asked = t.log.asked;
  begins = t.log.begins;
}

-- no slot begun, every count 0, and nothing asked
abbrev pub untold_state : DeskState
untold_state = record {
  held = None;
  slots = alike (untold false);
  faults = no_faults;
  absents = 0;
  longs = 0;
  shorts = 0;
  steady = false;
  asked = [];
  begins = [];
}

-- a file that was made for a slot has these bytes more, where it tells what it holds
abbrev pub HasMore : {F : Type 0} → (F → Option (List ℕ)) → List ℕ → Option F → Option F → Type 0
HasMore {F} contents piece before now =
    (f : F) → before ≡ Some f → (g : F) × (now ≡ Some g) × Appends (contents f) (contents g) piece

-- known bytes gained a first part of the piece, and nothing else
abbrev pub AppendsPart : Option (List ℕ) → Option (List ℕ) → List ℕ → Type 0
AppendsPart before now piece = (count : ℕ) × Appends before now (take count piece)

-- a file that was made for a slot has a first part of these bytes more, where it tells what it holds
abbrev pub HasPart : {F : Type 0} → (F → Option (List ℕ)) → List ℕ → Option F → Option F → Type 0
HasPart contents piece before now = (count : ℕ) × HasMore contents (take count piece) before now
