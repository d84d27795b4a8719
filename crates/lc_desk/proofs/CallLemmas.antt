-- Begins and puts, one after another.
use Rattle.std.proofs.Common.{◌≡◌, ℕ, List, [], ◌∷◌, ◌++◌, refl, sym, ◌∙◌, ap, subst, arith, append_assoc, append-nil, Option, Some, None, option_map, IsTrue, All, Contains}
use Rattle.std.proofs.lemmas.List.Elements.{All-append, All-head, All-tail}
use Rattle.lc_desk.specs.declared.desk.Slot.{Slot}
use Rattle.lc_desk.specs.declared.desk.Slot.TheVariants.{Picture, Bounds, Report, Note}
use Rattle.lc_desk.specs.declared.desk.PutStop.{PutStop}
use Rattle.lc_desk.specs.declared.desk.PutStop.TheVariants.{Failed, Memory}
use Rattle.lc_desk.specs.Causes.{Rose}
use Rattle.lc_desk.proofs.RoseLemmas.{Rose-since, Rose-until}
use Rattle.lc_desk.specs.Desk.{DeskState, SlotState, Slots, Later, OnlySlot, TookPart, CanPut, opened, appended}
use Rattle.lc_desk.specs.Slots.{slot_at, with_slot}
use Rattle.lc_desk.specs.Calls.{Call, begin, put, slot_of, begins_of, after_call, after_calls, after_part, Made, HasRisen, BrokeOff, AreOn}

-- ---- what every call keeps

pub later_none : (d : DeskState) → Later d d
later_none d = record {
  held = refl;
  steady = refl;
  reads = omega arith;
  puts = λ slot. omega arith;
  absents = omega arith;
  longs = omega arith;
  shorts = omega arith;
  no_fault = λ steady. refl;
}

pub later_then : (a b c : DeskState) → Later a b → Later b c → Later a c
later_then a b c ab bc = record {
  held = bc.held ∙ ab.held;
  steady = bc.steady ∙ ab.steady;
  reads = omega arith;
  puts = λ slot. let first = ab.puts slot in let second = bc.puts slot in omega arith;
  absents = omega arith;
  longs = omega arith;
  shorts = omega arith;
  no_fault = λ steady. bc.no_fault (subst IsTrue (sym ab.steady) steady) ∙ ab.no_fault steady;
}

-- appending nothing
pub appended-nil : (s : SlotState) → appended [] s ≡ s
appended-nil s = ap (λ o. record s { out = o }) (mapped s.out) where
  mapped : (o : Option (List ℕ)) → option_map (λ held. held ++ []) o ≡ o
  mapped None = refl
  mapped (Some held) = ap Some (append-nil held)

-- two pieces, one after the other
pub appended-appended : (a b : List ℕ) (s : SlotState) → appended b (appended a s) ≡ appended (a ++ b) s
appended-appended a b s = ap (λ o. record s { out = o }) (mapped s.out) where
  mapped : (o : Option (List ℕ)) → option_map (λ held. held ++ b) (option_map (λ held. held ++ a) o) ≡ option_map (λ held. held ++ (a ++ b)) o
  mapped None = refl
  mapped (Some held) = ap Some (append_assoc held a b)

-- a slot that is set to what it is
pub with_slot-same : (s : Slots) (slot : Slot) → with_slot s slot (slot_at s slot) ≡ s
with_slot-same s Picture = refl
with_slot-same s Bounds = refl
with_slot-same s Report = refl
with_slot-same s Note = refl

-- ---- calls, one after another

pub after_calls-append : (a b : List Call) (s : Slots) → after_calls (a ++ b) s ≡ after_calls b (after_calls a s)
after_calls-append [] b s = refl
after_calls-append (call ∷ later) b s = after_calls-append later b (after_call call s)

pub begins_of-append : (a b : List Call) → begins_of (a ++ b) ≡ begins_of a ++ begins_of b
begins_of-append [] b = refl
begins_of-append (begin slot name ∷ later) b = ap (λ l. (slot, name) ∷ l) (begins_of-append later b)
begins_of-append (put slot piece ∷ later) b = begins_of-append later b

-- no call
pub made_none : (d : DeskState) → Made [] d d
made_none d = record { later = later_none d; slots = refl; asked = refl; begins = sym (append-nil d.begins) }

-- the begins of two lists of calls, one after another
pub begins_then : (a b : List Call) (x y z : DeskState) → y.begins ≡ x.begins ++ begins_of a → z.begins ≡ y.begins ++ begins_of b → z.begins ≡ x.begins ++ begins_of (a ++ b)
begins_then a b x y z xy yz =
    yz ∙ ap (λ l. l ++ begins_of b) xy ∙ append_assoc x.begins (begins_of a) (begins_of b) ∙ ap (λ l. x.begins ++ l) (sym (begins_of-append a b))

pub made_then : (a b : List Call) (x y z : DeskState) → Made a x y → Made b y z → Made (a ++ b) x z
made_then a b x y z xy yz = record {
  later = later_then x y z xy.later yz.later;
  slots = yz.slots ∙ ap (after_calls b) xy.slots ∙ sym (after_calls-append a b x.slots);
  asked = yz.asked ∙ xy.asked;
  begins = begins_then a b x y z xy.begins yz.begins;
}

-- one begin that is answered Ok
pub made_begin : (slot : Slot) (name : List ℕ) (x y : DeskState) → slot_at y.slots slot ≡ opened name (slot_at x.slots slot) → y.begins ≡ x.begins ++ (slot, name) ∷ [] → OnlySlot slot x y → Made (begin slot name ∷ []) x y
made_begin slot name x y begun begins same =
    record { later = same.later; slots = same.slots ∙ ap (with_slot x.slots slot) begun; asked = same.asked; begins = begins }

-- one put that is answered Ok
pub made_put : (slot : Slot) (piece : List ℕ) (x y : DeskState) → slot_at y.slots slot ≡ appended piece (slot_at x.slots slot) → y.begins ≡ x.begins → OnlySlot slot x y → Made (put slot piece ∷ []) x y
made_put slot piece x y took begins same = record {
  later = same.later;
  slots = same.slots ∙ ap (with_slot x.slots slot) took;
  asked = same.asked;
  begins = begins ∙ sym (append-nil x.begins);
}

-- ---- a call that is refused

-- a refused call alone
abbrev pub broke_one : (why : PutStop) (call : Call) (taken : ℕ) (x y : DeskState) → Later x y → y.slots ≡ after_part taken call x.slots → y.asked ≡ x.asked → y.begins ≡ x.begins ++ begins_of (call ∷ []) → HasRisen why (slot_of call) x y → BrokeOff why (call ∷ []) x y
broke_one why call taken x y later slots asked begins cause = record {
  done = [];
  refused = call;
  rest = [];
  split = refl;
  taken = taken;
  later = later;
  slots = slots;
  asked = asked;
  begins = begins;
  cause = cause;
}

-- one begin that is refused
abbrev pub broke_begin : (why : PutStop) (slot : Slot) (name : List ℕ) (x y : DeskState) → y.slots ≡ x.slots → HasRisen why slot x y → y.begins ≡ x.begins ++ (slot, name) ∷ [] → OnlySlot slot x y → BrokeOff why (begin slot name ∷ []) x y
broke_begin why slot name x y kept cause begins same = broke_one why (begin slot name) 0 x y same.later kept same.asked begins cause

-- one put that takes a part and is refused
abbrev pub broke_put_part : (slot : Slot) (piece : List ℕ) (x y : DeskState) → TookPart piece (slot_at x.slots slot) (slot_at y.slots slot) → Rose (slot_at x.faults.puts slot) (slot_at y.faults.puts slot) → y.begins ≡ x.begins → OnlySlot slot x y → BrokeOff Failed (put slot piece ∷ []) x y
broke_put_part slot piece x y part cause begins same =
    broke_one Failed (put slot piece) part.count x y same.later (same.slots ∙ ap (with_slot x.slots slot) part.held) same.asked
    (begins ∙ sym (append-nil x.begins)) cause

-- one put that finds no memory
abbrev pub broke_put_short : (slot : Slot) (piece : List ℕ) (x y : DeskState) → y.slots ≡ x.slots → Rose x.shorts y.shorts → y.begins ≡ x.begins → OnlySlot slot x y → BrokeOff Memory (put slot piece ∷ []) x y
broke_put_short slot piece x y kept cause begins same =
    broke_one Memory (put slot piece) 0 x y same.later
    (kept ∙ sym (ap (with_slot x.slots slot) (appended-nil (slot_at x.slots slot)) ∙ with_slot-same x.slots slot)) same.asked
    (begins ∙ sym (append-nil x.begins)) cause

-- more calls would have come
abbrev pub broke_before : (why : PutStop) (a b : List Call) (x y : DeskState) → BrokeOff why a x y → BrokeOff why (a ++ b) x y
broke_before why a b x y broke = record {
  done = broke.done;
  refused = broke.refused;
  rest = broke.rest ++ b;
  split = ap (λ l. l ++ b) broke.split ∙ append_assoc broke.done (broke.refused ∷ broke.rest) b;
  taken = broke.taken;
  later = broke.later;
  slots = broke.slots;
  asked = broke.asked;
  begins = broke.begins;
  cause = broke.cause;
}

-- a cause in a later part is a cause in the whole
pub risen_since : (why : PutStop) (slot : Slot) (x y z : DeskState) → Later x y → HasRisen why slot y z → HasRisen why slot x z
risen_since Failed slot x y z later cause = Rose-since _ _ _ (later.puts slot) cause
risen_since Memory slot x y z later cause = Rose-since _ _ _ later.shorts cause

pub risen_until : (why : PutStop) (slot : Slot) (x y z : DeskState) → HasRisen why slot x y → Later y z → HasRisen why slot x z
risen_until Failed slot x y z cause later = Rose-until _ _ _ cause (later.puts slot)
risen_until Memory slot x y z cause later = Rose-until _ _ _ cause later.shorts

-- calls had been made before
abbrev pub broke_after : (why : PutStop) (a b : List Call) (x y z : DeskState) → Made a x y → BrokeOff why b y z → BrokeOff why (a ++ b) x z
broke_after why a b x y z made broke = record {
  done = a ++ broke.done;
  refused = broke.refused;
  rest = broke.rest;
  split = ap (λ l. a ++ l) broke.split ∙ sym (append_assoc a broke.done (broke.refused ∷ broke.rest));
  taken = broke.taken;
  later = later_then x y z made.later broke.later;
  slots = broke.slots ∙ ap (λ s. after_part broke.taken broke.refused (after_calls broke.done s)) made.slots ∙ ap (after_part broke.taken broke.refused) (sym (after_calls-append a broke.done x.slots));
  asked = broke.asked ∙ made.asked;
  begins = begins_then a (broke.done ++ broke.refused ∷ []) x y z made.begins broke.begins ∙ ap (λ l. x.begins ++ begins_of l) (sym (append_assoc a broke.done (broke.refused ∷ [])));
  cause = risen_since why (slot_of broke.refused) x y z made.later broke.cause;
}

-- ---- slots that are begun

open_after_call : (call : Call) (slot : Slot) (s : Slots) → CanPut s slot → CanPut (after_call call s) slot
open_after_call (begin Picture name) Picture s h = refl
open_after_call (begin Bounds name) Picture s h = h
open_after_call (begin Report name) Picture s h = h
open_after_call (begin Note name) Picture s h = h
open_after_call (put Picture piece) Picture s h = h
open_after_call (put Bounds piece) Picture s h = h
open_after_call (put Report piece) Picture s h = h
open_after_call (put Note piece) Picture s h = h
open_after_call (begin Picture name) Bounds s h = h
open_after_call (begin Bounds name) Bounds s h = refl
open_after_call (begin Report name) Bounds s h = h
open_after_call (begin Note name) Bounds s h = h
open_after_call (put Picture piece) Bounds s h = h
open_after_call (put Bounds piece) Bounds s h = h
open_after_call (put Report piece) Bounds s h = h
open_after_call (put Note piece) Bounds s h = h
open_after_call call Report s h = tt
open_after_call call Note s h = tt

-- a slot that can be put can be put after any calls
pub open_after_calls : (calls : List Call) (slot : Slot) (s : Slots) → CanPut s slot → CanPut (after_calls calls s) slot
open_after_calls [] slot s h = h
open_after_calls (call ∷ later) slot s h = open_after_calls later slot (after_call call s) (open_after_call call slot s h)

-- a slot that was begun can be put
pub open_begun : (slot : Slot) (name : List ℕ) (x y : DeskState) → slot_at y.slots slot ≡ opened name (slot_at x.slots slot) → CanPut y.slots slot
open_begun Picture name x y begun = ap (λ s. s.begun) begun
open_begun Bounds name x y begun = ap (λ s. s.begun) begun
open_begun Report name x y begun = tt
open_begun Note name x y begun = tt

-- a slot stays open while calls are made
pub open_made : (calls : List Call) (slot : Slot) (x y : DeskState) → Made calls x y → CanPut x.slots slot → CanPut y.slots slot
open_made calls slot x y made h = subst (λ s. CanPut s slot) (sym made.slots) (open_after_calls calls slot x.slots h)

-- ---- calls on some slots alone

-- the calls are on these slots
abbrev IsOn : List Slot → Call → Type 0
IsOn slots call = Contains slots (slot_of call)

pub AreOn-append : (slots : List Slot) (a b : List Call) → AreOn slots a → AreOn slots b → AreOn slots (a ++ b)
AreOn-append slots a b ha hb = All-append (IsOn slots) a b ha hb

AreOn-split : (slots : List Slot) (a b : List Call) → AreOn slots (a ++ b) → AreOn slots b
AreOn-split slots [] b h = h
AreOn-split slots (call ∷ later) b h = AreOn-split slots later b (All-tail (IsOn slots) call (later ++ b) h)

-- a call that is refused is on one of them
pub refused_on : (why : PutStop) (slots : List Slot) (calls : List Call) (x y : DeskState) → AreOn slots calls → (broke : BrokeOff why calls x y) → Contains slots (slot_of broke.refused)
refused_on why slots calls x y on broke =
    All-head (IsOn slots) broke.refused broke.rest (AreOn-split slots broke.done (broke.refused ∷ broke.rest) (subst (AreOn slots) broke.split on))

-- a slot that is no call's is as it was
abbrev pub IsOff : Slot → Call → Type 0
IsOff slot call = slot_of call ≡ slot → ⊥

other_slot : (a slot : Slot) (s : Slots) (x : SlotState) → (a ≡ slot → ⊥) → slot_at (with_slot s a x) slot ≡ slot_at s slot
other_slot Picture Picture s x off = absurd (off refl)
other_slot Bounds Bounds s x off = absurd (off refl)
other_slot Report Report s x off = absurd (off refl)
other_slot Note Note s x off = absurd (off refl)
other_slot Picture Bounds s x off = refl
other_slot Picture Report s x off = refl
other_slot Picture Note s x off = refl
other_slot Bounds Picture s x off = refl
other_slot Bounds Report s x off = refl
other_slot Bounds Note s x off = refl
other_slot Report Picture s x off = refl
other_slot Report Bounds s x off = refl
other_slot Report Note s x off = refl
other_slot Note Picture s x off = refl
other_slot Note Bounds s x off = refl
other_slot Note Report s x off = refl

other_after_call : (call : Call) (slot : Slot) (s : Slots) → IsOff slot call → slot_at (after_call call s) slot ≡ slot_at s slot
other_after_call (begin a name) slot s off = other_slot a slot s (opened name (slot_at s a)) off
other_after_call (put a piece) slot s off = other_slot a slot s (appended piece (slot_at s a)) off

pub other_after_calls : (calls : List Call) (slot : Slot) (s : Slots) → All (IsOff slot) calls → slot_at (after_calls calls s) slot ≡ slot_at s slot
other_after_calls [] slot s off = refl
other_after_calls (call ∷ later) slot s off =
    other_after_calls later slot (after_call call s) (All-tail (IsOff slot) call later off) ∙ other_after_call call slot s (All-head (IsOff slot) call later off)
