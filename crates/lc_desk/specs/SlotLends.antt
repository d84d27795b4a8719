-- What the values of all slots end as, where that of one slot is lent.
use Rattle.std.specs.Borrow.{Lends, Fml, RattleType, MutBor}
use Rattle.lc_desk.specs.declared.desk.Slot.{Slot}
use Rattle.lc_desk.specs.declared.per_slot.PerSlot.{PerSlot}
use Rattle.lc_desk.specs.contracts.per_slot.PerSlot.{the_row}
use Rattle.lc_desk.specs.Slots.{with_slot}

abbrev pub LendsSlot : (T : RattleType) → MutBor (PerSlot T.Denot) → Slot → MutBor T.Denot → Fml
LendsSlot T s slot r = Lends (the_row T) T s r (with_slot s.now slot)
