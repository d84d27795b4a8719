-- One begin or put, as a frame sees it.
use Rattle.std.proofs.Common.{◌≡◌, ℕ, List, [], ◌∷◌, ◌++◌, refl, Result, Ok, Err, OnErr, IsErrOf}
use Rattle.lc_desk.specs.declared.desk.Slot.{Slot}
use Rattle.lc_desk.specs.declared.desk.PutStop.{PutStop}
use Rattle.lc_desk.specs.declared.desk.PutStop.TheVariants.{Failed, Memory}
use Rattle.lc_desk.specs.Causes.{Rose}
use Rattle.lc_desk.specs.Desk.{DeskState, OnlySlot, TookPart}
use Rattle.lc_desk.specs.Slots.{slot_at}
use Rattle.lc_desk.specs.Calls.{begin, put}
use Rattle.lc_desk.proofs.CallLemmas.{broke_begin, broke_put_part, broke_put_short}
use Rattle.lc_frame.specs.Stops.{Broke, stop_at}

-- a begin that is refused
pub begin_broke : {T : Type 0} (slot : Slot) (name : List ℕ) (result : Result T PutStop) (stop : PutStop) (x y : DeskState) → result ≡ Err stop
    → OnErr result (y.slots ≡ x.slots) → (IsErrOf result Failed → Rose (slot_at x.faults.puts slot) (slot_at y.faults.puts slot)) → (IsErrOf result Memory → Rose x.shorts y.shorts)
    → y.begins ≡ x.begins ++ (slot, name) ∷ [] → OnlySlot slot x y → Broke (stop_at slot stop) (begin slot name ∷ []) x y
begin_broke slot name (Ok v) stop x y e kept failed memory begins same = absurd (cc)
begin_broke slot name (Err Failed) Failed x y e kept failed memory begins same = (broke_begin Failed slot name x y kept (failed refl) begins same, refl)
begin_broke slot name (Err Memory) Memory x y e kept failed memory begins same = broke_begin Memory slot name x y kept (memory refl) begins same
begin_broke slot name (Err Failed) Memory x y e kept failed memory begins same = absurd (cc)
begin_broke slot name (Err Memory) Failed x y e kept failed memory begins same = absurd (cc)

-- a put that is refused
pub put_broke : {T : Type 0} (slot : Slot) (piece : List ℕ) (result : Result T PutStop) (stop : PutStop) (x y : DeskState) → result ≡ Err stop
    → (IsErrOf result Failed → Rose (slot_at x.faults.puts slot) (slot_at y.faults.puts slot)) → (IsErrOf result Failed → TookPart piece (slot_at x.slots slot) (slot_at y.slots slot))
    → (IsErrOf result Memory → Rose x.shorts y.shorts) → (IsErrOf result Memory → y.slots ≡ x.slots)
    → y.begins ≡ x.begins → OnlySlot slot x y → Broke (stop_at slot stop) (put slot piece ∷ []) x y
put_broke slot piece (Ok v) stop x y e failed part memory kept begins same = absurd (cc)
put_broke slot piece (Err Failed) Failed x y e failed part memory kept begins same = (broke_put_part slot piece x y (part refl) (failed refl) begins same, refl)
put_broke slot piece (Err Memory) Memory x y e failed part memory kept begins same = broke_put_short slot piece x y (kept refl) (memory refl) begins same
put_broke slot piece (Err Failed) Memory x y e failed part memory kept begins same = absurd (cc)
put_broke slot piece (Err Memory) Failed x y e failed part memory kept begins same = absurd (cc)
