-- A line on Note, put in two pieces.
use Rattle.std.proofs.Common.{◌≡◌, ◌⊎◌, ℕ, ◌+◌, List, [], ◌∷◌, ◌++◌, zero, suc, length, take, refl, sym, ◌∙◌, ap, inl, inr, append-nil, false, Result, Ok, Err, is_ok, IsErrOf, OnOk, subst}
use Rattle.std.proofs.Math.Seq.{take-append-add}
use Rattle.lc_desk.specs.declared.desk.Slot.TheVariants.{Note}
use Rattle.lc_desk.specs.declared.desk.PutStop.{PutStop}
use Rattle.lc_desk.specs.declared.desk.PutStop.TheVariants.{Failed, Memory}
use Rattle.lc_desk.specs.Causes.{Rose}
use Rattle.lc_desk.proofs.RoseLemmas.{Rose-since}
use Rattle.lc_desk.proofs.CallLemmas.{later_then, appended-nil, appended-appended}
use Rattle.lc_desk.specs.Desk.{DeskState, OnlySlot, TookPart, appended}
use Rattle.lc_desk.specs.Slots.{with_slot}
use Rattle.lc_tool.specs.Noted.{Noted, Said}
use Rattle.lc_tool.proofs.Keeps.{with_note}

-- a first part of a piece is a first part of the line
pub part_of_line : (k : ℕ) (piece rest : List ℕ) → (j : ℕ) × (take k piece ≡ take j (piece ++ rest))
part_of_line zero piece rest = (0, refl)
part_of_line (suc k) [] rest = (0, refl)
part_of_line (suc k) (x ∷ xs) rest = let p = part_of_line k xs rest in (suc p.0, ap (λ l. x ∷ l) p.1)

-- the piece, and then the rest of the line
pub noted_more : (piece rest : List ℕ) (before mid now : DeskState) → OnlySlot Note before mid → mid.begins ≡ before.begins → mid.slots.note ≡ appended piece before.slots.note → Noted rest mid now → Noted (piece ++ rest) before now
noted_more piece rest before mid now only begins put noted = record {
  later = later_then before mid now only.later noted.later;
  slots = noted.slots ∙ ap (λ s. with_slot s Note now.slots.note) only.slots;
  faults = noted.faults ∙ ap (λ f. with_note f now.faults.reads now.faults.puts.note) only.faults;
  begins = noted.begins ∙ begins;
  said = said noted.said;
} where
  said : Said rest mid now → Said (piece ++ rest) before now
  said (inl whole) = inl (whole ∙ ap (appended rest) put ∙ appended-appended piece rest before.slots.note)
  said (inr cut) = inr (record {
    count = length piece + cut.count;
    part = cut.part ∙ ap (appended (take cut.count rest)) put ∙ appended-appended piece (take cut.count rest) before.slots.note ∙ ap (λ p. appended p before.slots.note) (sym (take-append-add piece rest cut.count));
    cause = cause cut.cause;
  }) where
    cause : Rose mid.faults.puts.note now.faults.puts.note ⊎ Rose mid.shorts now.shorts → Rose before.faults.puts.note now.faults.puts.note ⊎ Rose before.shorts now.shorts
    cause (inl rose) = inl (Rose-since _ _ _ (only.later.puts Note) rose)
    cause (inr rose) = inr (Rose-since _ _ _ only.later.shorts rose)

note_faults : (before now : DeskState) → OnlySlot Note before now → now.faults ≡ with_note before.faults now.faults.reads now.faults.puts.note
note_faults before now only = only.faults ∙ ap (λ r. with_note before.faults r now.faults.puts.note) (sym (ap (λ f. f.reads) only.faults))

-- a piece that Note refused
noted_part : (piece rest : List ℕ) (before now : DeskState) → OnlySlot Note before now → now.begins ≡ before.begins → TookPart piece before.slots.note now.slots.note → Rose before.faults.puts.note now.faults.puts.note → Noted (piece ++ rest) before now
noted_part piece rest before now only begins part rose =
    let front = part_of_line part.count piece rest in
    record {
      later = only.later;
      slots = only.slots;
      faults = note_faults before now only;
      begins = begins;
      said = inr (record { count = front.0; part = part.held ∙ ap (λ p. appended p before.slots.note) front.1; cause = inl rose });
    }

-- a piece for which there was no memory
noted_short : (line : List ℕ) (before now : DeskState) → OnlySlot Note before now → now.begins ≡ before.begins → now.slots ≡ before.slots → Rose before.shorts now.shorts → Noted line before now
noted_short line before now only begins same rose = record {
  later = only.later;
  slots = only.slots;
  faults = note_faults before now only;
  begins = begins;
  said = inr (record { count = 0; part = ap (λ s. s.note) same ∙ sym (appended-nil before.slots.note); cause = inr rose });
}

-- a piece that was refused
pub noted_refused : {T : Type 0} (piece rest : List ℕ) (before now : DeskState) (result : Result T PutStop) → is_ok result ≡ false → OnlySlot Note before now → now.begins ≡ before.begins
    → (IsErrOf result Failed → TookPart piece before.slots.note now.slots.note) → (IsErrOf result Failed → Rose before.faults.puts.note now.faults.puts.note)
    → (IsErrOf result Memory → now.slots ≡ before.slots) → (IsErrOf result Memory → Rose before.shorts now.shorts)
    → Noted (piece ++ rest) before now
noted_refused piece rest before now (Ok x) refused only begins part failed kept memory = absurd (cc)
noted_refused piece rest before now (Err Failed) refused only begins part failed kept memory = noted_part piece rest before now only begins (part refl) (failed refl)
noted_refused piece rest before now (Err Memory) refused only begins part failed kept memory = noted_short (piece ++ rest) before now only begins (kept refl) (memory refl)

-- a piece, put or refused
pub noted_put : {T : Type 0} (piece : List ℕ) (before now : DeskState) (result : Result T PutStop) → OnlySlot Note before now → now.begins ≡ before.begins
    → OnOk result (now.slots.note ≡ appended piece before.slots.note)
    → (IsErrOf result Failed → TookPart piece before.slots.note now.slots.note) → (IsErrOf result Failed → Rose before.faults.puts.note now.faults.puts.note)
    → (IsErrOf result Memory → now.slots ≡ before.slots) → (IsErrOf result Memory → Rose before.shorts now.shorts)
    → Noted piece before now
noted_put piece before now (Ok x) only begins put part failed kept memory = record {
  later = only.later;
  slots = only.slots;
  faults = note_faults before now only;
  begins = begins;
  said = inl put;
}
noted_put piece before now (Err e) only begins put part failed kept memory = subst (λ line. Noted line before now) (append-nil piece) (noted_refused piece [] before now (Err e) refl only begins part failed kept memory)
