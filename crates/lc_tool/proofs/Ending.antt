-- Ends of a run, by its steps.
use Rattle.std.proofs.Common.{◌≡◌, ℕ, ◌+◌, List, refl, sym, ◌∙◌, ap, subst, Option, Some, IfOk, Ok, inr, [], ◌∷◌, append-nil, Contains, lit<}
use Rattle.std.proofs.lemmas.List.Elements.{All-cons, All-nil}
use Rattle.lc_desk.specs.Calls.{AreOn, Made, put, slot_of}
use Rattle.lc_desk.specs.Causes.{Rose}
use Rattle.lc_desk.specs.Desk.{DeskState, Files, OnlySlot, TookPart}
use Rattle.lc_desk.specs.Slots.{with_slot}
use Rattle.lc_desk.specs.declared.desk.Slot.{Slot}
use Rattle.lc_desk.specs.declared.desk.Slot.TheVariants.{Report}
use Rattle.lc_frame.specs.Stops.{Broke, StoppedIn}
use Rattle.lc_frame.specs.declared.stop.FrameStop.{FrameStop}
use Rattle.lc_frame.specs.declared.stop.FrameStop.TheVariants as frame
use Rattle.lc_tool.specs.declared.status.Status.{Status}
use Rattle.lc_tool.specs.declared.status.Status.TheVariants.{Done, Usage, Stopped, Unwritten}
use Rattle.lc_tool.specs.Course.{Course, and_then, at_once, told}
use Rattle.lc_tool.specs.Ends.{Began, Ends, Counts, write_line}
use Rattle.lc_tool.specs.Noted.{Noted}
use Rattle.lc_tool.specs.Stopped.{Gave, Went}
use Rattle.lc_tool.specs.Work.{Work}
use Rattle.lc_tool.proofs.Keeps.{counts_none, reads_none}
use Rattle.lc_tool.proofs.Courses.{less_told, told_as, went_on, went_then, gave_once}
use Rattle.lc_tool.proofs.Stopping.{stopped_then}

-- ---- a course that is over

-- what is to be written is known at once
began_now : (slots : List Slot) (work : Work) (x : DeskState) → AreOn slots work.calls → Began slots (Some (at_once (Ok work))) work x x
began_now slots work x on = record { on = on; reads = reads_none x; counts = counts_none x; told = gave_once work x }

-- all calls were made
pub done_now : (slots : List Slot) (work : Work) (x y : DeskState) → AreOn slots work.calls → Made work.calls x y → Ends Done slots (Some (at_once (Ok work))) x y
done_now slots work x y on made = record { work = work; start = x; began = began_now slots work x on; made = made }

-- a call was refused, which was told on Note
pub broken_now : (stop : FrameStop) (slots : List Slot) (work : Work) (x y z : DeskState) → AreOn slots work.calls → StoppedIn stop work.calls x y → Noted (write_line stop) y z → z.asked ≡ y.asked → Ends (Unwritten stop) slots (Some (at_once (Ok work))) x z
broken_now stop slots work x y z on broke noted same = record { work = work; start = x; began = began_now slots work x on; mid = y; broke = broke; noted = noted; asked = same }

-- a refused call is a stop
pub stopped_by : (stop : FrameStop) (work : Work) (x y : DeskState) → Broke stop work.calls x y → StoppedIn stop work.calls x y
stopped_by (frame.Write slot) work x y broke = broke
stopped_by frame.Memory work x y broke = inr broke

-- all is done, and the counter has risen by the evaluations
pub counts_now : (status : Status) (work : Work) (steps_before steps_now : ℕ) → (status ≡ Done → steps_now ≡ steps_before + work.evals) → Counts status (Some (at_once (Ok work))) steps_before steps_now
counts_now status work steps_before steps_now h = h

-- ---- a later step

began_told : (slots : List Slot) (course : Course Work) (work : Work) (held : Option Files) (x y : DeskState) → Began slots (Some course) work x y → Began slots (told (λ files. course) held) work x y
began_told slots course work held x y began = record { on = began.on; reads = began.reads; counts = began.counts; told = less_told course held (Gave work x y) began.told }

-- an end of a course is one over a desk, whether it tells its files or not
pub ends_told : (status : Status) (slots : List Slot) (course : Course Work) (held : Option Files) (x y : DeskState) → Ends status slots (Some course) x y → Ends status slots (told (λ files. course) held) x y
ends_told Done slots course held x y h = record { work = h.work; start = h.start; began = began_told slots course h.work held x h.start h.began; made = h.made }
ends_told Usage slots course held x y h = h
ends_told (Stopped stop) slots course held x y h = record { line = h.line; form = h.form; cause = h.cause; told = less_told course held _ h.told; noted = h.noted }
ends_told (Unwritten stop) slots course held x y h = record {
  work = h.work;
  start = h.start;
  began = began_told slots course h.work held x h.start h.began;
  mid = h.mid;
  broke = h.broke;
  noted = h.noted;
  asked = h.asked;
}

began_then : {A : Type 0} (slots : List Slot) (step : Files → Course A) (next : Files → A → Course Work) (a : A) (work : Work) (x y z : DeskState) → Went (told step x.held) a x y → Began slots (told (λ files. next files a) y.held) work y z → Began slots (told (λ files. and_then (step files) (next files)) x.held) work x z
began_then slots step next a work x y z first began =
    let later : Went (told (λ files. next files a) y.held) work y z = record { reads = began.reads; counts = began.counts; told = began.told } in
    let both = went_then step next a work x y z first later in
    record { on = began.on; reads = both.reads; counts = both.counts; told = both.told }

-- the end of a later step is the end of the whole
pub ends_next : {A : Type 0} (status : Status) (slots : List Slot) (step : Files → Course A) (next : Files → A → Course Work) (a : A) (x y z : DeskState) → Went (told step x.held) a x y → Ends status slots (told (λ files. next files a) y.held) y z → Ends status slots (told (λ files. and_then (step files) (next files)) x.held) x z
ends_next Done slots step next a x y z first h = record { work = h.work; start = h.start; began = began_then slots step next a h.work x y h.start first h.began; made = h.made }
ends_next Usage slots step next a x y z first h = h
ends_next (Stopped stop) slots step next a x y z first h = stopped_then stop step next a x y z first h
ends_next (Unwritten stop) slots step next a x y z first h = record {
  work = h.work;
  start = h.start;
  began = began_then slots step next a h.work x y h.start first h.began;
  mid = h.mid;
  broke = h.broke;
  noted = h.noted;
  asked = h.asked;
}

-- the same, where the later step reads nothing
pub ends_last : {A : Type 0} (status : Status) (slots : List Slot) (step : Files → Course A) (next : A → Work) (a : A) (x y z : DeskState) → Went (told step x.held) a x y → Ends status slots (Some (at_once (Ok (next a)))) y z → Ends status slots (told (λ files. and_then (step files) (λ b. at_once (Ok (next b)))) x.held) x z
ends_last status slots step next a x y z first h = ends_next status slots step (λ files b. at_once (Ok (next b))) a x y z first (ends_told status slots (at_once (Ok (next a))) y.held y z h)

-- ---- the count of evaluations

-- the count of a later step is that of the whole
pub counts_last : {A : Type 0} (status : Status) (step : Files → Course A) (next : A → Work) (a : A) (x y : DeskState) (steps_before steps_now : ℕ) → Went (told step x.held) a x y → Counts status (Some (at_once (Ok (next a)))) steps_before steps_now → Counts status (told (λ files. and_then (step files) (λ b. at_once (Ok (next b)))) x.held) steps_before steps_now
counts_last {A} status step next a x y steps_before steps_now first counted = λ done.
    told_as x.held step (λ files. and_then (step files) (λ b. at_once (Ok (next b)))) (Gave a x y) (λ course. IfOk course.end (λ w. steps_now ≡ steps_before + w.evals))
    (λ files p. subst (λ course. IfOk course.end (λ w. steps_now ≡ steps_before + w.evals)) (sym (went_on (step files) (λ b. at_once (Ok (next b))) a p.end)) (counted done)) first.told

-- ---- a line on Report

-- a put on Report that took a part and was refused
pub report_broke : (line : List ℕ) (x y : DeskState) → OnlySlot Report x y → y.begins ≡ x.begins → TookPart line x.slots.report y.slots.report → Rose x.faults.puts.report y.faults.puts.report → Broke (frame.Write Report) (put Report line ∷ []) x y
report_broke line x y same begins part rose = (
  record {
    done = [];
    refused = put Report line;
    rest = [];
    split = refl;
    taken = part.count;
    later = same.later;
    slots = same.slots ∙ ap (with_slot x.slots Report) part.held;
    asked = same.asked;
    begins = begins ∙ sym (append-nil x.begins);
    cause = rose;
  },
  refl,
)

-- the only put is on Report
pub report_on : (line : List ℕ) → AreOn (Report ∷ []) (put Report line ∷ [])
report_on line = All-cons (λ call. Contains (Report ∷ []) (slot_of call)) (put Report line) [] (0, lit< tt, refl) (All-nil (λ call. Contains (Report ∷ []) (slot_of call)))
