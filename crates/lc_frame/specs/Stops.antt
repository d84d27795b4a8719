-- How a frame stops.
use Rattle.std.specs.Prelude.{◌≡◌, ◌⊎◌, List}
use Rattle.lc_desk.specs.Calls.{Call, BrokeOff, slot_of}
use Rattle.lc_desk.specs.Desk.{DeskState}
use Rattle.lc_desk.specs.declared.desk.PutStop.{PutStop}
use Rattle.lc_desk.specs.declared.desk.PutStop.TheVariants as put_stop
use Rattle.lc_desk.specs.declared.desk.Slot.{Slot}
use Rattle.lc_frame.specs.declared.stop.FrameStop.{FrameStop}
use Rattle.lc_frame.specs.declared.stop.FrameStop.TheVariants.{Write, Memory}

-- what the refusal of a begin or a put of a slot means for a frame
abbrev pub stop_at : Slot → PutStop → FrameStop
stop_at slot put_stop.Failed = Write slot
stop_at slot put_stop.Memory = Memory

-- the calls were made up to one that was refused: for a fault of this slot, or for want of memory
abbrev pub Broke : FrameStop → List Call → DeskState → DeskState → Type 0
Broke (Write slot) calls before now = (b : BrokeOff put_stop.Failed calls before now) × (slot_of b.refused ≡ slot)
Broke Memory calls before now = BrokeOff put_stop.Memory calls before now

-- the same, or there was no memory before the first call, and nothing was done
abbrev pub StoppedIn : FrameStop → List Call → DeskState → DeskState → Type 0
StoppedIn (Write slot) calls before now = Broke (Write slot) calls before now
StoppedIn Memory calls before now = (now ≡ before) ⊎ Broke Memory calls before now
