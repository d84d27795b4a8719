-- What calls on a desk keep, one after another.
use Rattle.std.proofs.Common.{◌≡◌, ◌⊎◌, ℕ, List, refl, ◌∙◌, ap, subst, inl, inr, take, Result, Ok, Err}
use Rattle.lc_desk.specs.Causes.{Rose}
use Rattle.lc_desk.proofs.RoseLemmas.{Rose-since}
use Rattle.lc_desk.specs.Desk.{DeskState, Faults, Later, OnlyReads, appended}
use Rattle.lc_desk.proofs.CallLemmas.{later_none, later_then}
use Rattle.lc_desk.specs.Effects.{CountsPut, CountsRead}
use Rattle.lc_desk.specs.declared.desk.PutStop.{PutStop}
use Rattle.lc_desk.specs.declared.desk.ReadStop.{ReadStop}
use Rattle.lc_desk.specs.declared.desk.ReadStop.TheVariants.{Memory}
use Rattle.lc_desk.specs.declared.desk.Slot.TheVariants.{Note}
use Rattle.lc_tool.specs.Noted.{Said}
use Rattle.lc_tool.specs.Stopped.{NoReadCounted}

-- the same faults, but for those of reads
abbrev pub with_reads : Faults → ℕ → Faults
with_reads f n = record f { reads = n }

-- the same faults, but for those of reads and of Note
abbrev pub with_note : Faults → ℕ → ℕ → Faults
with_note f n m = record { reads = n; puts = record f.puts { note = m } }

-- nothing is done
pub reads_none : (d : DeskState) → OnlyReads d d
reads_none d = record { later = later_none d; slots = refl; faults = refl; begins = refl }

pub reads_then : (a b c : DeskState) → OnlyReads a b → OnlyReads b c → OnlyReads a c
reads_then a b c ab bc = record {
  later = later_then a b c ab.later bc.later;
  slots = bc.slots ∙ ab.slots;
  faults = bc.faults ∙ ap (λ f. with_reads f c.faults.reads) ab.faults;
  begins = bc.begins ∙ ab.begins;
}

-- ---- the counts of reads

pub counts_none : (d : DeskState) → NoReadCounted d d
counts_none d = record { faults = refl; absents = refl; longs = refl }

pub counts_then : (a b c : DeskState) → NoReadCounted a b → NoReadCounted b c → NoReadCounted a c
counts_then a b c ab bc = record { faults = bc.faults ∙ ab.faults; absents = bc.absents ∙ ab.absents; longs = bc.longs ∙ ab.longs }

-- a read that went well, and one that found no memory
pub read_counts : {T : Type 0} (result : Result T ReadStop) (t : T) (before now : DeskState) → result ≡ Ok t → CountsRead result before now → NoReadCounted before now
read_counts result t before now is counted =
    let h : CountsRead (Ok t) before now = subst (λ r. CountsRead r before now) is counted in
    record { faults = ap (λ f. f.reads) h.faults; absents = h.absents; longs = h.longs }

pub short_counts : {T : Type 0} (result : Result T ReadStop) (before now : DeskState) → result ≡ Err Memory → CountsRead result before now → NoReadCounted before now
short_counts {T} result before now is counted =
    let P : Result T ReadStop → Type 0 = λ r. CountsRead r before now in
    let h : P (Err Memory) = subst P is counted in
    record { faults = ap (λ f. f.reads) h.faults; absents = h.absents; longs = h.longs }

-- a put of Note
pub note_counts : {T : Type 0} (result : Result T PutStop) (before now : DeskState) → CountsPut result Note before now → NoReadCounted before now
note_counts result before now h = record { faults = ap (λ f. f.reads) h.faults; absents = h.absents; longs = h.longs }

-- a line that was put later, where Note was as before
pub said_since : (line : List ℕ) (before mid now : DeskState) → mid.slots.note ≡ before.slots.note → Later before mid → Said line mid now → Said line before now
said_since line before mid now note later (inl whole) = inl (whole ∙ ap (appended line) note)
said_since line before mid now note later (inr cut) = inr (record {
  count = cut.count;
  part = cut.part ∙ ap (appended (take cut.count line)) note;
  cause = cause cut.cause;
}) where
  cause : Rose mid.faults.puts.note now.faults.puts.note ⊎ Rose mid.shorts now.shorts → Rose before.faults.puts.note now.faults.puts.note ⊎ Rose before.shorts now.shorts
  cause (inl rose) = inl (Rose-since _ _ _ (later.puts Note) rose)
  cause (inr rose) = inr (Rose-since _ _ _ later.shorts rose)
