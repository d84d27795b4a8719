-- What a run's number says of its end.
use Rattle.std.proofs.Common.{◌≡◌, ◌⊎◌, ℕ, ◌<◌, ◌≤◌, ◌==◌, List, [], ◌∷◌, ◌++◌, map, refl, sym, ◌∙◌, ap, inl, inr, subst, Option, Some, None, IfSome, Ok, IsTrue, arith, if◌then◌else◌, All, Contains, append_assoc, append-nil, take}
use Rattle.std.proofs.lemmas.List.{map-append}
use Rattle.std.proofs.lemmas.List.Elements.{All-nil, All-cons, All-head, All-tail, All-weaker, All-contains, Contains-append_right}
use Rattle.lc_desk.specs.declared.desk.Slot.{Slot}
use Rattle.lc_desk.specs.declared.desk.Slot.TheVariants.{Picture, Bounds, Report, Note}
use Rattle.lc_desk.specs.declared.desk.PutStop.{PutStop}
use Rattle.lc_desk.specs.declared.desk.PutStop.TheVariants as put_stop
use Rattle.lc_desk.specs.Calls.{Call, begin, put, slot_of, begins_of, after_calls, after_part, Made, BrokeOff, AreOn}
use Rattle.lc_desk.specs.Causes.{Rose}
use Rattle.lc_desk.specs.Desk.{DeskState, Slots, Files, Later, no_faults}
use Rattle.lc_desk.specs.Slots.{slot_at}
use Rattle.lc_desk.proofs.RoseLemmas.{Rose-since, Rose-until}
use Rattle.lc_desk.proofs.CallLemmas.{IsOff, later_none, later_then, begins_of-append, other_after_calls, refused_on}
use Rattle.lc_frame.specs.Stops.{StoppedIn}
use Rattle.lc_frame.specs.declared.stop.FrameStop.{FrameStop}
use Rattle.lc_frame.specs.declared.stop.FrameStop.TheVariants as frame
use Rattle.lc_tool.specs.declared.status.Source.{Source}
use Rattle.lc_tool.specs.declared.status.Source.TheVariants.{Job, Scene, Library, Lights, Record}
use Rattle.lc_tool.specs.declared.status.Stop.{Stop}
use Rattle.lc_tool.specs.declared.status.Stop.TheVariants.{Memory, Faulty, Absent, ReadFault, Long, Refuted}
use Rattle.lc_tool.specs.declared.status.Status.{Status}
use Rattle.lc_tool.specs.declared.status.Status.TheVariants.{Done, Usage, Stopped, Unwritten}
use Rattle.lc_tool.specs.Course.{Course}
use Rattle.lc_tool.specs.Words.{Command, probe, render, plain, audit, make}
use Rattle.lc_tool.specs.Work.{Work, calls_of}
use Rattle.lc_tool.specs.Lines.{usage_line}
use Rattle.lc_tool.specs.Outcome.{course_of, slots_of, status_of}
use Rattle.lc_tool.specs.Status.{stop_code, code}
use Rattle.lc_tool.specs.Noted.{Noted, Said}
use Rattle.lc_tool.specs.Stopped.{Reads, ReadsFirst, Gave, Refuses, StoppedBy}
use Rattle.lc_tool.specs.Ends.{Ends, Finished, BrokenBy, Runs, IsFaultless, HasLine, IsLineOf, SameOutputs, BeginsFirst, OpensOnly, write_line}
use Rattle.lc_tool.proofs.Keeps.{said_since}

-- ---- what an option says

pub some_told : {A : Type 0} (o : Option A) (P : A → Type 0) → ((a : A) → P a) → IfSome o P
some_told None P f = tt
some_told (Some a) P f = f a

pub some_as : {A : Type 0} (o : Option A) (P Q : A → Type 0) → ((a : A) → P a → Q a) → IfSome o P → IfSome o Q
some_as None P Q f h = tt
some_as (Some a) P Q f h = f a h

pub some_here : {A : Type 0} (o : Option A) (P : A → Type 0) (a : A) → o ≡ Some a → IfSome o P → P a
some_here o P a e h = let Q : Option _ → Type 0 = λ x. IfSome x P in subst Q e h

-- ---- numbers and stops

stop_of : ℕ → Stop
stop_of n =
    if n == 3
    then Faulty Job
    else if n == 4
    then Faulty Scene
    else if n == 5
    then Faulty Library
    else if n == 6 then Faulty Lights else if n == 7 then Absent else if n == 8 then ReadFault else if n == 10 then Long else if n == 11 then Refuted else if n == 12 then Faulty Record else Memory

stop_of-code : (stop : Stop) → stop_of (stop_code stop) ≡ stop
unfolding stop_of
stop_of-code Memory = refl
stop_of-code (Faulty Job) = refl
stop_of-code (Faulty Scene) = refl
stop_of-code (Faulty Library) = refl
stop_of-code (Faulty Lights) = refl
stop_of-code Absent = refl
stop_of-code ReadFault = refl
stop_of-code Long = refl
stop_of-code (Faulty Record) = refl
stop_of-code Refuted = refl

not_nine : (stop : Stop) → stop_code stop ≡ 9 → ⊥
not_nine Memory e = omega arith
not_nine (Faulty Job) e = omega arith
not_nine (Faulty Scene) e = omega arith
not_nine (Faulty Library) e = omega arith
not_nine (Faulty Lights) e = omega arith
not_nine Absent e = omega arith
not_nine ReadFault e = omega arith
not_nine Long e = omega arith
not_nine (Faulty Record) e = omega arith
not_nine Refuted e = omega arith

not_two : (stop : Stop) → stop_code stop ≡ 2 → ⊥
not_two Memory e = omega arith
not_two (Faulty Job) e = omega arith
not_two (Faulty Scene) e = omega arith
not_two (Faulty Library) e = omega arith
not_two (Faulty Lights) e = omega arith
not_two Absent e = omega arith
not_two ReadFault e = omega arith
not_two Long e = omega arith
not_two (Faulty Record) e = omega arith
not_two Refuted e = omega arith

some_stop : (stop : Stop) → (0 < stop_code stop) × (stop_code stop ≤ 12)
some_stop Memory = (omega arith, omega arith)
some_stop (Faulty Job) = (omega arith, omega arith)
some_stop (Faulty Scene) = (omega arith, omega arith)
some_stop (Faulty Library) = (omega arith, omega arith)
some_stop (Faulty Lights) = (omega arith, omega arith)
some_stop Absent = (omega arith, omega arith)
some_stop ReadFault = (omega arith, omega arith)
some_stop Long = (omega arith, omega arith)
some_stop (Faulty Record) = (omega arith, omega arith)
some_stop Refuted = (omega arith, omega arith)

same_stop : (a b : Stop) → stop_code a ≡ stop_code b → a ≡ b
same_stop a b e = sym (stop_of-code a) ∙ ap stop_of e ∙ stop_of-code b

-- only a stop has the number of a stop that is no want of memory
is_stopped : (status : Status) (stop : Stop) → 1 < stop_code stop → code status ≡ stop_code stop → status ≡ Stopped stop
is_stopped Done stop more e = absurd (omega arith)
is_stopped Usage stop more e = absurd (not_two stop (sym e))
is_stopped (Stopped other) stop more e = ap Stopped (same_stop other stop e)
is_stopped (Unwritten frame.Memory) stop more e = absurd (omega arith)
is_stopped (Unwritten (frame.Write slot)) stop more e = absurd (not_nine stop (sym e))

pub is_done : (status : Status) → code status ≡ 0 → status ≡ Done
is_done Done e = refl
is_done Usage e = absurd (omega arith)
is_done (Stopped stop) e = absurd (omega (arith, (some_stop stop).0))
is_done (Unwritten frame.Memory) e = absurd (omega arith)
is_done (Unwritten (frame.Write slot)) e = absurd (omega arith)

pub faulty_more : (text : Source) → 1 < stop_code (Faulty text)
faulty_more Job = omega arith
faulty_more Scene = omega arith
faulty_more Library = omega arith
faulty_more Lights = omega arith
faulty_more Record = omega arith

pub code_most : (status : Status) → code status ≤ 12
code_most Done = omega arith
code_most Usage = omega arith
code_most (Stopped stop) = (some_stop stop).1
code_most (Unwritten frame.Memory) = omega arith
code_most (Unwritten (frame.Write slot)) = omega arith

-- ---- what calls leave in a slot that they are not on

abbrev pub AreOff : Slot → List Slot → Type 0
AreOff slot slots = All (λ s. s ≡ slot → ⊥) slots

pub off_note : (command : Option Command) → AreOff Note (slots_of command)
off_note None = All-nil (λ s. s ≡ Note → ⊥)
off_note (Some (probe name place direction)) = All-cons (λ s. s ≡ Note → ⊥) Report [] (λ e. cc) (All-nil (λ s. s ≡ Note → ⊥))
off_note (Some (render name)) =
    All-cons (λ s. s ≡ Note → ⊥) Picture (Bounds ∷ []) (λ e. cc)
    (All-cons (λ s. s ≡ Note → ⊥) Bounds [] (λ e. cc) (All-nil (λ s. s ≡ Note → ⊥)))
off_note (Some (plain name)) = All-cons (λ s. s ≡ Note → ⊥) Picture [] (λ e. cc) (All-nil (λ s. s ≡ Note → ⊥))
off_note (Some (audit name step)) = All-cons (λ s. s ≡ Note → ⊥) Report [] (λ e. cc) (All-nil (λ s. s ≡ Note → ⊥))
off_note (Some (make number)) =
    All-cons (λ s. s ≡ Note → ⊥) Picture (Bounds ∷ Report ∷ []) (λ e. cc)
    (All-cons (λ s. s ≡ Note → ⊥) Bounds (Report ∷ []) (λ e. cc) (All-cons (λ s. s ≡ Note → ⊥) Report [] (λ e. cc) (All-nil (λ s. s ≡ Note → ⊥))))

calls_off : (slot : Slot) (slots : List Slot) (calls : List Call) → AreOff slot slots → AreOn slots calls → All (IsOff slot) calls
calls_off slot slots calls off on =
    All-weaker (λ call. Contains slots (slot_of call)) (IsOff slot) (λ call c. All-contains (λ s. s ≡ slot → ⊥) slots (slot_of call) off c) calls on

All-first : {X : Type 0} (P : X → Type 0) (xs ys : List X) → All P (xs ++ ys) → All P xs
All-first P [] ys h = All-nil P
All-first P (x ∷ xs) ys h = All-cons P x xs (All-head P x (xs ++ ys) h) (All-first P xs ys (All-tail P x (xs ++ ys) h))

off_after_part : (slot : Slot) (taken : ℕ) (call : Call) (s : Slots) → IsOff slot call → slot_at (after_part taken call s) slot ≡ slot_at s slot
off_after_part slot taken (begin a name) s off = refl
off_after_part slot taken (put a piece) s off =
    other_after_calls (put a (take taken piece) ∷ []) slot s (All-cons (IsOff slot) (put a (take taken piece)) [] off (All-nil (IsOff slot)))

pub off_made : (slot : Slot) (slots : List Slot) (calls : List Call) (x y : DeskState) → AreOff slot slots → AreOn slots calls → Made calls x y → slot_at y.slots slot ≡ slot_at x.slots slot
off_made slot slots calls x y off on made =
    ap (λ s. slot_at s slot) made.slots ∙ other_after_calls calls slot x.slots (calls_off slot slots calls off on)

off_broke : (why : PutStop) (slot : Slot) (slots : List Slot) (calls : List Call) (x y : DeskState) → AreOff slot slots → AreOn slots calls → BrokeOff why calls x y → slot_at y.slots slot ≡ slot_at x.slots slot
off_broke why slot slots calls x y off on b =
    let each : All (IsOff slot) (b.done ++ b.refused ∷ b.rest) = subst (All (IsOff slot)) b.split (calls_off slot slots calls off on) in
    let last : IsOff slot b.refused = All-contains (λ s. s ≡ slot → ⊥) slots (slot_of b.refused) off (refused_on why slots calls x y on b) in
    ap (λ s. slot_at s slot) b.slots ∙ off_after_part slot b.taken b.refused (after_calls b.done x.slots) last
    ∙ other_after_calls b.done slot x.slots (All-first (IsOff slot) b.done (b.refused ∷ b.rest) each)

pub off_stopped : (stop : FrameStop) (slot : Slot) (slots : List Slot) (calls : List Call) (x y : DeskState) → AreOff slot slots → AreOn slots calls → StoppedIn stop calls x y → slot_at y.slots slot ≡ slot_at x.slots slot
off_stopped (frame.Write written) slot slots calls x y off on h = off_broke put_stop.Failed slot slots calls x y off on h.0
off_stopped frame.Memory slot slots calls x y off on (inl same) = ap (λ d. slot_at d.slots slot) same
off_stopped frame.Memory slot slots calls x y off on (inr b) = off_broke put_stop.Memory slot slots calls x y off on b

pub stopped_later : (stop : FrameStop) (calls : List Call) (x y : DeskState) → StoppedIn stop calls x y → Later x y
stopped_later (frame.Write slot) calls x y h = h.0.later
stopped_later frame.Memory calls x y (inl same) = subst (Later x) (sym same) (later_none x)
stopped_later frame.Memory calls x y (inr b) = b.later

stopped_asked : (stop : FrameStop) (calls : List Call) (x y : DeskState) → StoppedIn stop calls x y → y.asked ≡ x.asked
stopped_asked (frame.Write slot) calls x y h = h.0.asked
stopped_asked frame.Memory calls x y (inl same) = ap (λ d. d.asked) same
stopped_asked frame.Memory calls x y (inr b) = b.asked

-- ---- clauses by the number

run_stopped : (command : Option Command) (stop : Stop) (course : Option (Course Work)) (before now : DeskState) → Runs command (Stopped stop) course before now → StoppedBy stop course before now
run_stopped None stop course before now h = absurd (cc h.usage)
run_stopped (Some command) stop course before now h = h

pub by_stop : (command : Option Command) (status : Status) (stop : Stop) (course : Option (Course Work)) (before now : DeskState) → Runs command status course before now → 1 < stop_code stop → code status ≡ stop_code stop → StoppedBy stop course before now
by_stop command status stop course before now h more e =
    run_stopped command stop course before now (subst (λ s. Runs command s course before now) (is_stopped status stop more e) h)

pub by_done : (command : Option Command) (status : Status) (course : Option (Course Work)) (before now : DeskState) → Runs command status course before now → code status ≡ 0 → Finished (slots_of command) course before now
by_done None status course before now h e = absurd (let u : code status ≡ 2 = ap code h.usage in omega arith)
by_done (Some command) Done course before now h e = h
by_done (Some command) Usage course before now h e = absurd h
by_done (Some command) (Stopped stop) course before now h e = absurd (omega (arith, (some_stop stop).0))
by_done (Some command) (Unwritten frame.Memory) course before now h e = absurd (omega arith)
by_done (Some command) (Unwritten (frame.Write slot)) course before now h e = absurd (omega arith)

-- where all is done, Note is as it was
pub by_silent : (command : Option Command) (status : Status) (course : Option (Course Work)) (before now : DeskState) → Runs command status course before now → code status ≡ 0 → now.slots.note ≡ before.slots.note
by_silent command status course before now h e =
    let f = by_done command status course before now h e in
    off_made Note (slots_of command) f.work.calls f.start now (off_note command) f.began.on f.made ∙ ap (λ s. s.note) f.began.reads.slots

-- the count of a slot that the command writes rose
abbrev pub SlotFailed : Option Command → Slot → DeskState → DeskState → Type 0
SlotFailed command slot before now = Contains (slots_of command) slot × Rose (slot_at before.faults.puts slot) (slot_at now.faults.puts slot)

broken_rose : (slots : List Slot) (slot : Slot) (course : Option (Course Work)) (before now : DeskState) → BrokenBy (frame.Write slot) slots course before now → Rose (slot_at before.faults.puts slot) (slot_at now.faults.puts slot)
broken_rose slots slot course before now h =
    subst (λ s. Rose (slot_at before.faults.puts s) (slot_at now.faults.puts s)) h.broke.1
    (Rose-since _ _ _ (h.began.reads.later.puts (slot_of h.broke.0.refused))
    (Rose-until _ _ _ h.broke.0.cause (h.noted.later.puts (slot_of h.broke.0.refused))))

-- a begin or a put of a slot was refused
pub by_failed : (command : Option Command) (status : Status) (course : Option (Course Work)) (before now : DeskState) → Runs command status course before now → code status ≡ 9 → (slot : Slot) × BrokenBy (frame.Write slot) (slots_of command) course before now × SlotFailed command slot before now
by_failed None status course before now h e = absurd (let u : code status ≡ 2 = ap code h.usage in omega arith)
by_failed (Some command) Done course before now h e = absurd (omega arith)
by_failed (Some command) Usage course before now h e = absurd h
by_failed (Some command) (Stopped stop) course before now h e = absurd (not_nine stop e)
by_failed (Some command) (Unwritten frame.Memory) course before now h e = absurd (omega arith)
by_failed (Some command) (Unwritten (frame.Write slot)) course before now h e =
    let slots : List Slot = slots_of (Some command) in
    (slot, h, (subst (Contains slots) h.broke.1 (refused_on put_stop.Failed slots h.work.calls h.start h.mid h.began.on h.broke.0), broken_rose slots slot course before now h))

pub by_memory : (command : Option Command) (status : Status) (course : Option (Course Work)) (before now : DeskState) → Runs command status course before now → code status ≡ 1 → StoppedBy Memory course before now ⊎ BrokenBy frame.Memory (slots_of command) course before now
by_memory None status course before now h e = absurd (let u : code status ≡ 2 = ap code h.usage in omega arith)
by_memory (Some command) Done course before now h e = absurd (omega arith)
by_memory (Some command) Usage course before now h e = absurd h
by_memory (Some command) (Stopped stop) course before now h e = inl (subst (λ s. StoppedBy s course before now) (same_stop stop Memory e) h)
by_memory (Some command) (Unwritten frame.Memory) course before now h e = inr h
by_memory (Some command) (Unwritten (frame.Write slot)) course before now h e = absurd (omega arith)

pub by_usage : (command : Option Command) (status : Status) (course : Option (Course Work)) (before now : DeskState) → Runs command status course before now → (code status ≡ 2 → command ≡ None) × (command ≡ None → code status ≡ 2)
by_usage None status course before now h = (λ e. refl, λ e. ap code h.usage)
by_usage (Some command) status course before now h = (λ e. absurd (other status h e), λ e. cc) where
  other : (s : Status) → Ends s (slots_of (Some command)) course before now → code s ≡ 2 → ⊥
  other Done h e = omega arith
  other Usage h e = h
  other (Stopped stop) h e = not_two stop e
  other (Unwritten frame.Memory) h e = omega arith
  other (Unwritten (frame.Write slot)) h e = omega arith

-- ---- the line on Note, and the outputs

broken_said : (command : Option Command) (stop : FrameStop) (course : Option (Course Work)) (before now : DeskState) → BrokenBy stop (slots_of command) course before now → Said (write_line stop) before now
broken_said command stop course before now h =
    said_since (write_line stop) before h.mid now
    (off_stopped stop Note (slots_of command) h.work.calls h.start h.mid (off_note command) h.began.on h.broke ∙ ap (λ s. s.note) h.began.reads.slots)
    (later_then before h.start h.mid h.began.reads.later (stopped_later stop h.work.calls h.start h.mid h.broke))
    h.noted.said

pub run_line : (command : Option Command) (status : Status) (course : Option (Course Work)) (before now : DeskState) → Runs command status course before now → ¬ (code status ≡ 0) → HasLine (code status) before now
run_line None status course before now h other = record {
  status = status;
  number = refl;
  line = usage_line;
  form = subst (λ s. IsLineOf s usage_line) (sym h.usage) refl;
  said = h.noted.said;
}
run_line (Some command) Done course before now h other = absurd (other refl)
run_line (Some command) Usage course before now h other = absurd h
run_line (Some command) (Stopped stop) course before now h other = record { status = Stopped stop; number = refl; line = h.line; form = h.form; said = h.noted.said }
run_line (Some command) (Unwritten stop) course before now h other = record {
  status = Unwritten stop;
  number = refl;
  line = write_line stop;
  form = refl;
  said = broken_said (Some command) stop course before now h;
}

kept_outputs : (line : List ℕ) (before now : DeskState) → Noted line before now → SameOutputs before now
kept_outputs line before now noted =
    record { picture = ap (λ s. s.picture) noted.slots; bounds = ap (λ s. s.bounds) noted.slots; report = ap (λ s. s.report) noted.slots }

pub run_unwritten : (command : Option Command) (status : Status) (course : Option (Course Work)) (before now : DeskState) → Runs command status course before now → ¬ (code status ≡ 0) → ¬ (code status ≡ 1) → ¬ (code status ≡ 9) → SameOutputs before now
run_unwritten None status course before now h zero one nine = kept_outputs usage_line before now h.noted
run_unwritten (Some command) Done course before now h zero one nine = absurd (zero refl)
run_unwritten (Some command) Usage course before now h zero one nine = absurd h
run_unwritten (Some command) (Stopped stop) course before now h zero one nine = kept_outputs h.line before now h.noted
run_unwritten (Some command) (Unwritten frame.Memory) course before now h zero one nine = absurd (one refl)
run_unwritten (Some command) (Unwritten (frame.Write slot)) course before now h zero one nine = absurd (nine refl)

-- ---- with no fault counted, the status is that of the outcome, or there was no memory

some_same : {A : Type 0} (a b : A) → ◌≡◌ {A = Option A} (Some a) (Some b) → a ≡ b
some_same a b e = cc

usage_end : (held : Option Files) (c : Course Work) → course_of None held ≡ Some c → 2 ≡ status_of c.end
usage_end held c e = ap (λ (x : Course Work). status_of x.end) (some_same _ c e)

refused_called : (why : PutStop) (calls : List Call) (x y : DeskState) (b : BrokeOff why calls x y) → Contains (map slot_of calls) (slot_of b.refused)
refused_called why calls x y b =
    subst (λ l. Contains l (slot_of b.refused)) (sym (ap (map slot_of) b.split ∙ map-append slot_of b.done (b.refused ∷ b.rest)))
    (Contains-append_right (map slot_of b.done) (slot_of b.refused ∷ map slot_of b.rest) (slot_of b.refused) (0, omega arith, refl))

pub run_complete : (command : Option Command) (status : Status) (held : Option Files) (before now : DeskState) → Runs command status (course_of command held) before now → (c : Course Work) → course_of command held ≡ Some c → IsFaultless c before now → (code status ≡ status_of c.end) ⊎ (code status ≡ 1)
run_complete None status held before now h c e faultless = inl (ap code h.usage ∙ usage_end held c e)
run_complete (Some command) Done held before now h c e faultless =
    inl (sym (ap status_of (some_here _ (Gave h.work before h.start) c e h.began.told).end))
run_complete (Some command) Usage held before now h c e faultless = absurd h
run_complete (Some command) (Stopped Memory) held before now h c e faultless = inr refl
run_complete (Some command) (Stopped (Faulty text)) held before now h c e faultless =
    inl (sym (ap status_of (some_here _ (Refuses (Faulty text) h.line before now) c e h.told).end))
run_complete (Some command) (Stopped Absent) held before now h c e faultless =
    inl (sym (ap status_of (some_here _ (Refuses Absent h.line before now) c e h.told).end))
run_complete (Some command) (Stopped ReadFault) held before now h c e faultless = absurd (faultless.reads h.cause)
run_complete (Some command) (Stopped Long) held before now h c e faultless =
    inl (sym (ap status_of (some_here _ (Refuses Long h.line before now) c e h.told).end))
run_complete (Some command) (Stopped Refuted) held before now h c e faultless =
    inl (sym (ap status_of (some_here _ (Refuses Refuted h.line before now) c e h.told).end))
run_complete (Some command) (Unwritten frame.Memory) held before now h c e faultless = inr refl
run_complete (Some command) (Unwritten (frame.Write slot)) held before now h c e faultless =
    let given : c.end ≡ Ok h.work = (some_here _ (Gave h.work before h.start) c e h.began.told).end in
    let called : Contains (map slot_of h.work.calls) slot = subst (Contains (map slot_of h.work.calls)) h.broke.1 (refused_called put_stop.Failed h.work.calls h.start h.mid h.broke.0) in
    absurd (faultless.slots slot (subst (λ x. Contains (map slot_of (calls_of x)) slot) (sym given) called) (broken_rose _ slot _ before now h))

-- ---- over a desk with no call to fail no fault is answered

none_rose : Rose 0 0 → ⊥
none_rose (inl more) = omega arith
none_rose (inr last) = omega arith

none_rose_at : (slot : Slot) → Rose (slot_at no_faults.puts slot) (slot_at no_faults.puts slot) → ⊥
none_rose_at Picture rose = none_rose rose
none_rose_at Bounds rose = none_rose rose
none_rose_at Report rose = none_rose rose
none_rose_at Note rose = none_rose rose

steady_reads : (before now : DeskState) → Later before now → IsTrue before.steady → before.faults ≡ no_faults → Rose before.faults.reads now.faults.reads → ⊥
steady_reads before now later steady none rose =
    none_rose (subst (λ f. Rose f.reads 0) none (subst (λ f. Rose before.faults.reads f.reads) (later.no_fault steady ∙ none) rose))

steady_slot : (slot : Slot) (before now : DeskState) → Later before now → IsTrue before.steady → before.faults ≡ no_faults → Rose (slot_at before.faults.puts slot) (slot_at now.faults.puts slot) → ⊥
steady_slot slot before now later steady none rose =
    none_rose_at slot
    (subst (λ f. Rose (slot_at f.puts slot) (slot_at no_faults.puts slot)) none
    (subst (λ f. Rose (slot_at before.faults.puts slot) (slot_at f.puts slot)) (later.no_fault steady ∙ none) rose))

broken_later : (stop : FrameStop) (slots : List Slot) (course : Option (Course Work)) (before now : DeskState) → BrokenBy stop slots course before now → Later before now
broken_later stop slots course before now h =
    later_then before h.mid now
    (later_then before h.start h.mid h.began.reads.later (stopped_later stop h.work.calls h.start h.mid h.broke)) h.noted.later

pub run_steady : (command : Option Command) (status : Status) (course : Option (Course Work)) (before now : DeskState) → Runs command status course before now → IsTrue before.steady → before.faults ≡ no_faults → ¬ (code status ≡ 8) × ¬ (code status ≡ 9)
run_steady command status course before now h steady none = (eight, nine) where
  eight : ¬ (code status ≡ 8)
  eight e =
      let s : StoppedBy ReadFault course before now = by_stop command status ReadFault course before now h (omega arith) e in
      steady_reads before now s.noted.later steady none s.cause

  nine : ¬ (code status ≡ 9)
  nine e =
      let f = by_failed command status course before now h e in
      steady_slot f.0 before now (broken_later (frame.Write f.0) (slots_of command) course before now f.1) steady none f.2.1

-- ---- what a run opens

all_read : (names : List (List ℕ)) (before now : DeskState) → Reads names before now → ReadsFirst names before now
all_read names before now read = record { first = names; rest = []; split = sym (append-nil names); read = read }

none_read : (names : List (List ℕ)) (before now : DeskState) → now.asked ≡ before.asked → ReadsFirst names before now
none_read names before now same = record { first = []; rest = names; split = refl; read = same ∙ sym (append-nil before.asked) }

none_begun : (begins : List (Slot × List ℕ)) (before now : DeskState) → now.begins ≡ before.begins → BeginsFirst begins before now
none_begun begins before now same = record { first = []; rest = begins; split = refl; begun = same ∙ sym (append-nil before.begins) }

refused_reads : (stop : Stop) (line : List ℕ) (before now : DeskState) (c : Course Work) → Refuses stop line before now c → ReadsFirst c.reads before now
refused_reads Memory line before now c h = h
refused_reads (Faulty text) line before now c h = all_read c.reads before now h.read
refused_reads Absent line before now c h = all_read c.reads before now h.read
refused_reads ReadFault line before now c h = h.read
refused_reads Long line before now c h = all_read c.reads before now h.read
refused_reads Refuted line before now c h = all_read c.reads before now h.read

broke_begins : (why : PutStop) (calls : List Call) (x y : DeskState) → BrokeOff why calls x y → BeginsFirst (begins_of calls) x y
broke_begins why calls x y b = record {
  first = begins_of (b.done ++ b.refused ∷ []);
  rest = begins_of b.rest;
  split = ap begins_of (b.split ∙ sym (append_assoc b.done (b.refused ∷ []) b.rest)) ∙ begins_of-append (b.done ++ b.refused ∷ []) b.rest;
  begun = b.begins;
}

stopped_begins : (stop : FrameStop) (calls : List Call) (x y : DeskState) → StoppedIn stop calls x y → BeginsFirst (begins_of calls) x y
stopped_begins (frame.Write slot) calls x y h = broke_begins put_stop.Failed calls x y h.0
stopped_begins frame.Memory calls x y (inl same) = none_begun (begins_of calls) x y (ap (λ d. d.begins) same)
stopped_begins frame.Memory calls x y (inr b) = broke_begins put_stop.Memory calls x y b

-- begins with nothing begun before and after
begins_between : (begins all : List (Slot × List ℕ)) (before start mid now : DeskState) → all ≡ begins → start.begins ≡ before.begins → BeginsFirst begins start mid → now.begins ≡ mid.begins → BeginsFirst all before now
begins_between begins all before start mid now same first b last =
    record { first = b.first; rest = b.rest; split = same ∙ b.split; begun = last ∙ b.begun ∙ ap (λ l. l ++ b.first) first }

given_begins : (c : Course Work) (work : Work) → c.end ≡ Ok work → begins_of (calls_of c.end) ≡ begins_of work.calls
given_begins c work e = ap (λ x. begins_of (calls_of x)) e

pub run_opens : (command : Option Command) (status : Status) (course : Option (Course Work)) (before now : DeskState) → Runs command status course before now → IfSome course (OpensOnly before now)
run_opens None status course before now h =
    some_told course (OpensOnly before now)
    (λ c. record { reads = none_read c.reads before now h.asked; begins = none_begun (begins_of (calls_of c.end)) before now h.noted.begins })
run_opens (Some command) Done course before now h =
    some_as course (Gave h.work before h.start) (OpensOnly before now)
    (λ c gave. record {
      reads = all_read c.reads before now (h.made.asked ∙ gave.read);
      begins = record {
        first = begins_of h.work.calls;
        rest = [];
        split = given_begins c h.work gave.end ∙ sym (append-nil (begins_of h.work.calls));
        begun = h.made.begins ∙ ap (λ l. l ++ begins_of h.work.calls) h.began.reads.begins;
      };
    })
    h.began.told
run_opens (Some command) Usage course before now h = absurd h
run_opens (Some command) (Stopped stop) course before now h =
    some_as course (Refuses stop h.line before now) (OpensOnly before now)
    (λ c refuses. record {
      reads = refused_reads stop h.line before now c refuses;
      begins = none_begun (begins_of (calls_of c.end)) before now h.noted.begins;
    })
    h.told
run_opens (Some command) (Unwritten stop) course before now h =
    some_as course (Gave h.work before h.start) (OpensOnly before now)
    (λ c gave. record {
      reads = all_read c.reads before now (h.asked ∙ stopped_asked stop h.work.calls h.start h.mid h.broke ∙ gave.read);
      begins = begins_between (begins_of h.work.calls) (begins_of (calls_of c.end)) before h.start h.mid now (given_begins c h.work gave.end) h.began.reads.begins
          (stopped_begins stop h.work.calls h.start h.mid h.broke) h.noted.begins;
    })
    h.began.told
