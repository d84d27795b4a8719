-- Begins and puts, one after another: what they leave, and how far they came where one of them was refused.
use Rattle.std.specs.Prelude.{◌≡◌, ℕ, List, [], ◌∷◌, ◌++◌, take, All, Contains}
use Rattle.lc_desk.specs.declared.desk.Slot.{Slot}
use Rattle.lc_desk.specs.declared.desk.PutStop.{PutStop}
use Rattle.lc_desk.specs.declared.desk.PutStop.TheVariants as stop
use Rattle.lc_desk.specs.Causes.{Rose}
use Rattle.lc_desk.specs.Desk.{DeskState, Slots, Later, opened, appended}
use Rattle.lc_desk.specs.Slots.{slot_at, with_slot}

-- a begin of a slot under a name, or a put of a piece
pub data Call : Type 0 where
  begin : Slot → List ℕ → Call
  put : Slot → List ℕ → Call

abbrev pub slot_of : Call → Slot
slot_of (begin slot name) = slot
slot_of (put slot piece) = slot

-- the begins among calls, each by its slot and its name
abbrev pub begins_of : List Call → List (Slot × List ℕ)
begins_of [] = []
begins_of (begin slot name ∷ later) = (slot, name) ∷ begins_of later
begins_of (put slot piece ∷ later) = begins_of later

-- the slots after a call that is answered Ok
abbrev pub after_call : Call → Slots → Slots
after_call (begin slot name) s = with_slot s slot (opened name (slot_at s slot))
after_call (put slot piece) s = with_slot s slot (appended piece (slot_at s slot))

-- the slots after all of these calls
abbrev pub after_calls : List Call → Slots → Slots
after_calls [] s = s
after_calls (call ∷ later) s = after_calls later (after_call call s)

-- the slots after a call that is refused: a put takes so many bytes of its piece, a begin does nothing
abbrev pub after_part : ℕ → Call → Slots → Slots
after_part taken (begin slot name) s = s
after_part taken (put slot piece) s = with_slot s slot (appended (take taken piece) (slot_at s slot))

-- all of these calls were made and answered Ok, and nothing else was done
pub record Made (calls : List Call) (before now : DeskState) : Type 0 where
  pub later : Later before now
  pub slots : now.slots ≡ after_calls calls before.slots
  pub asked : now.asked ≡ before.asked
  pub begins : now.begins ≡ before.begins ++ begins_of calls

-- the count that a refused begin or put rests on rose
abbrev pub HasRisen : PutStop → Slot → DeskState → DeskState → Type 0
HasRisen stop.Failed slot before now = Rose (slot_at before.faults.puts slot) (slot_at now.faults.puts slot)
HasRisen stop.Memory slot before now = Rose before.shorts now.shorts

-- the calls were made one after another up to one that was refused: those before it were answered Ok, and it left a
-- part of its piece at most
pub record BrokeOff (why : PutStop) (calls : List Call) (before now : DeskState) : Type 0 where
  pub done : List Call
  pub refused : Call
  pub rest : List Call
  pub split : calls ≡ done ++ refused ∷ rest
  pub taken : ℕ
  pub later : Later before now
  pub slots : now.slots ≡ after_part taken refused (after_calls done before.slots)
  pub asked : now.asked ≡ before.asked
  pub begins : now.begins ≡ before.begins ++ begins_of (done ++ refused ∷ [])
  pub cause : HasRisen why (slot_of refused) before now

-- the calls are all on these slots
abbrev pub AreOn : List Slot → List Call → Type 0
AreOn slots calls = All (λ call. Contains slots (slot_of call)) calls
