-- One value for each slot.
use Rattle.lc_desk.specs.declared.desk.Slot.{Slot}
use Rattle.lc_desk.specs.declared.desk.Slot.TheVariants.{Picture, Bounds, Report, Note}
use Rattle.lc_desk.specs.declared.per_slot.PerSlot.{PerSlot}

abbrev pub slot_at : {T : Type 0} → PerSlot T → Slot → T
slot_at s Picture = s.picture
slot_at s Bounds = s.bounds
slot_at s Report = s.report
slot_at s Note = s.note

abbrev pub with_slot : {T : Type 0} → PerSlot T → Slot → T → PerSlot T
with_slot s Picture x = record s { picture = x }
with_slot s Bounds x = record s { bounds = x }
with_slot s Report x = record s { report = x }
with_slot s Note x = record s { note = x }

-- the same of each slot's value
abbrev pub each : {T U : Type 0} → (T → U) → PerSlot T → PerSlot U
each f s = record { picture = f s.picture; bounds = f s.bounds; report = f s.report; note = f s.note }

-- the same value for every slot
abbrev pub alike : {T : Type 0} → T → PerSlot T
alike x = record { picture = x; bounds = x; report = x; note = x }
