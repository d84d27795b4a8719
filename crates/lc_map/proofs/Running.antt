-- What the status of a run says of its end.
use Rattle.std.proofs.Common.{◌≡◌, ◌≢◌, ◌⊎◌, ◌↔◌, ℕ, zero, suc, List, [], refl, sym, ◌∙◌, ap, subst, arith, inl, inr, Option, Some, None, IfSome, Result, Ok, Err, IsTrue, Contains, append-nil}
use Rattle.std.proofs.lemmas.List.Elements.{All-nil, All-cons}
use Rattle.lc_num.specs.Faults.{Fault}
use Rattle.lc_desk.specs.Calls.{Made, after_calls, begins_of}
use Rattle.lc_desk.specs.Desk.{DeskState, Files, no_faults}
use Rattle.lc_desk.specs.Slots.{slot_at}
use Rattle.lc_desk.specs.Causes.{Rose}
use Rattle.lc_desk.specs.declared.desk.Slot.{Slot}
use Rattle.lc_desk.specs.declared.desk.Slot.TheVariants.{Picture, Bounds, Report, Note}
use Rattle.lc_desk.specs.declared.desk.PutStop.TheVariants as put_stop
use Rattle.lc_desk.proofs.CallLemmas.{later_then, refused_on}
use Rattle.lc_frame.specs.Files.{picture_file}
use Rattle.lc_frame.specs.Stops.{StoppedIn}
use Rattle.lc_frame.specs.declared.stop.FrameStop.{FrameStop}
use Rattle.lc_frame.specs.declared.stop.FrameStop.TheVariants as frame
use Rattle.lc_record.specs.Readings.{record_in}
use Rattle.lc_record.specs.declared.reader.Record.{Record}
use Rattle.lc_record.proofs.Told.{text_read, text_told}
use Rattle.lc_tool.specs.Course.{Course, at_once, told}
use Rattle.lc_tool.specs.Ends.{BrokenBy, Ends, Finished, OpensOnly, SameOutputs, write_line}
use Rattle.lc_tool.specs.Lines.{record_limit}
use Rattle.lc_tool.specs.Noted.{Noted, Said}
use Rattle.lc_tool.specs.Outcome.{kept_of, kept_text, status_of, text_of, unless_wrong}
use Rattle.lc_tool.specs.Status.{code}
use Rattle.lc_tool.specs.Stopped.{Gave, Refuses, StoppedBy}
use Rattle.lc_tool.specs.Words.{Command, plain}
use Rattle.lc_tool.specs.Work.{Work, calls_of}
use Rattle.lc_tool.specs.declared.status.Status.{Status}
use Rattle.lc_tool.specs.declared.status.Status.TheVariants.{Done, Usage, Stopped, Unwritten}
use Rattle.lc_tool.specs.declared.status.Stop.{Stop}
use Rattle.lc_tool.specs.declared.status.Stop.TheVariants.{Memory, Faulty, Absent, ReadFault, Long, Refuted}
use Rattle.lc_tool.proofs.Courses.{first_none}
use Rattle.lc_tool.proofs.Framing.{part_between, whole_part}
use Rattle.lc_tool.proofs.Keeps.{said_since}
use Rattle.lc_tool.proofs.Running.{AreOff, by_done, by_failed, by_silent, off_made, off_stopped, run_opens as tool_opens, run_steady as tool_steady, some_as, some_here, some_told, stopped_later}
use Rattle.lc_tool.proofs.Through.{ok_same, told_files, went_through, within_gave}
use Rattle.lc_map.specs.Map.{map_bytes}
use Rattle.lc_map.specs.Mapped.{HasMap, HasRecord, Holds, IsMapOf, KeepsOthers, LeavesMap}
use Rattle.lc_map.specs.Outcome.{course_of, map_calls, map_course, map_work, outcome, usage_line}
use Rattle.lc_map.specs.Runs.{HasLine, IsLineOf, NoFaultCounted, Runs}
use Rattle.lc_map.specs.Words.{Order, order_of}
use Rattle.lc_map.proofs.Written.{map_left, map_stopped}

-- the run of an order ends as a command does that writes a picture alone
abbrev alone : Option Command
alone = Some (plain [])

-- ---- by the status

module _ (order : Option Order) (status : Status) (course : Option (Course Work)) (before now : DeskState) where
  pub run_done : Runs order status course before now → status ≡ Done → Finished picture_file course before now
  run_done h e = go order h where
    go : (o : Option Order) → Runs o status course before now → Finished picture_file course before now
    go None h = let u : status ≡ Usage = h.usage in cc
    go (Some o) h = by_done alone status course before now h (ap code e)

  pub run_silent : Runs order status course before now → status ≡ Done → now.slots.note ≡ before.slots.note
  run_silent h e = go order h where
    go : (o : Option Order) → Runs o status course before now → now.slots.note ≡ before.slots.note
    go None h = let u : status ≡ Usage = h.usage in cc
    go (Some o) h = by_silent alone status course before now h (ap code e)

  pub run_usage : Runs order status course before now → (status ≡ Usage) ↔ (order ≡ None)
  run_usage h = go order h where
    go : (o : Option Order) → Runs o status course before now → (status ≡ Usage) ↔ (o ≡ None)
    go None h = (λ e. refl, λ e. h.usage)
    go (Some o) h = (λ e. absurd (subst (λ s. Ends s picture_file course before now) e h), λ e. cc)

  pub run_stopped : Runs order status course before now → (stop : Stop) → status ≡ Stopped stop → StoppedBy stop course before now
  run_stopped h stop e = go order h where
    go : (o : Option Order) → Runs o status course before now → StoppedBy stop course before now
    go None h = let u : status ≡ Usage = h.usage in cc
    go (Some o) h = subst (λ s. Ends s picture_file course before now) e h

  pub run_broken : Runs order status course before now → (stop : FrameStop) → status ≡ Unwritten stop → BrokenBy stop picture_file course before now
  run_broken h stop e = go order h where
    go : (o : Option Order) → Runs o status course before now → BrokenBy stop picture_file course before now
    go None h = let u : status ≡ Usage = h.usage in cc
    go (Some o) h = subst (λ s. Ends s picture_file course before now) e h

-- ---- the picture's count of faults

only_picture : (slot : Slot) → Contains picture_file slot → slot ≡ Picture
only_picture slot (zero, lt, at) = sym at
only_picture slot (suc k, lt, at) = absurd (omega arith)

pub write_failed : (order : Option Order) (slot : Slot) (course : Option (Course Work)) (before now : DeskState) → Runs order (Unwritten (frame.Write slot)) course before now → (slot ≡ Picture) × Rose before.faults.puts.picture now.faults.puts.picture
write_failed None slot course before now h = let u : Unwritten (frame.Write slot) ≡ Usage = h.usage in cc
write_failed (Some order) slot course before now h =
    let f = by_failed alone (Unwritten (frame.Write slot)) course before now h refl in
    let on : Contains picture_file slot = subst (Contains picture_file) h.broke.1 (refused_on put_stop.Failed picture_file h.work.calls h.start h.mid h.began.on h.broke.0) in
    (only_picture slot on, subst (λ s. Rose (slot_at before.faults.puts s) (slot_at now.faults.puts s)) (only_picture f.0 f.2.0) f.2.1)

-- ---- the line on Note, and the outputs

off_note : AreOff Note picture_file
off_note = All-cons (λ s. s ≡ Note → ⊥) Picture [] (λ e. cc) (All-nil (λ s. s ≡ Note → ⊥))

broken_said : (stop : FrameStop) (course : Option (Course Work)) (before now : DeskState) → BrokenBy stop picture_file course before now → Said (write_line stop) before now
broken_said stop course before now h =
    said_since (write_line stop) before h.mid now
    (off_stopped stop Note picture_file h.work.calls h.start h.mid off_note h.began.on h.broke ∙ ap (λ s. s.note) h.began.reads.slots)
    (later_then before h.start h.mid h.began.reads.later (stopped_later stop h.work.calls h.start h.mid h.broke)) h.noted.said

pub run_line : (order : Option Order) (status : Status) (course : Option (Course Work)) (before now : DeskState) → Runs order status course before now → status ≢ Done → HasLine status before now
run_line None status course before now h other = record { line = usage_line; form = subst (λ s. IsLineOf s usage_line) (sym h.usage) refl; said = h.noted.said }
run_line (Some order) Done course before now h other = absurd (other refl)
run_line (Some order) Usage course before now h other = absurd h
run_line (Some order) (Stopped stop) course before now h other = record { line = h.line; form = h.form; said = h.noted.said }
run_line (Some order) (Unwritten stop) course before now h other = record { line = write_line stop; form = refl; said = broken_said stop course before now h }

pub same_outputs : (line : List ℕ) (before now : DeskState) → Noted line before now → SameOutputs before now
same_outputs line before now noted =
    record { picture = ap (λ s. s.picture) noted.slots; bounds = ap (λ s. s.bounds) noted.slots; report = ap (λ s. s.report) noted.slots }

off_bounds : AreOff Bounds picture_file
off_bounds = All-cons (λ s. s ≡ Bounds → ⊥) Picture [] (λ e. cc) (All-nil (λ s. s ≡ Bounds → ⊥))

off_report : AreOff Report picture_file
off_report = All-cons (λ s. s ≡ Report → ⊥) Picture [] (λ e. cc) (All-nil (λ s. s ≡ Report → ⊥))

noted_others : (line : List ℕ) (before now : DeskState) → Noted line before now → KeepsOthers before now
noted_others line before now noted = record { bounds = ap (λ s. s.bounds) noted.slots; report = ap (λ s. s.report) noted.slots }

pub run_others : (order : Option Order) (status : Status) (course : Option (Course Work)) (before now : DeskState) → Runs order status course before now → KeepsOthers before now
run_others None status course before now h = noted_others usage_line before now h.noted
run_others (Some order) Done course before now h = record {
  bounds = off_made Bounds picture_file h.work.calls h.start now off_bounds h.began.on h.made ∙ ap (λ s. s.bounds) h.began.reads.slots;
  report = off_made Report picture_file h.work.calls h.start now off_report h.began.on h.made ∙ ap (λ s. s.report) h.began.reads.slots;
}
run_others (Some order) Usage course before now h = absurd h
run_others (Some order) (Stopped stop) course before now h = noted_others h.line before now h.noted
run_others (Some order) (Unwritten stop) course before now h = record {
  bounds = ap (λ s. s.bounds) h.noted.slots ∙ off_stopped stop Bounds picture_file h.work.calls h.start h.mid off_bounds h.began.on h.broke ∙ ap (λ s. s.bounds) h.began.reads.slots;
  report = ap (λ s. s.report) h.noted.slots ∙ off_stopped stop Report picture_file h.work.calls h.start h.mid off_report h.began.on h.broke ∙ ap (λ s. s.report) h.began.reads.slots;
}

-- ---- what a run opens

pub run_opens : (order : Option Order) (status : Status) (course : Option (Course Work)) (before now : DeskState) → Runs order status course before now → IfSome course (OpensOnly before now)
run_opens None status course before now h =
    some_told course (OpensOnly before now) (λ c. record {
      reads = first_none c.reads before now h.asked;
      begins = record { first = []; rest = begins_of (calls_of c.end); split = refl; begun = h.noted.begins ∙ sym (append-nil before.begins) };
    })
run_opens (Some order) status course before now h = tool_opens alone status course before now h

-- ---- with no fault counted

pub run_complete : (order : Option Order) (status : Status) (held : Option Files) (before now : DeskState) → Runs order status (course_of order held) before now → (c : Course Work) → course_of order held ≡ Some c → NoFaultCounted before now
    → (code status ≡ status_of c.end) ⊎ (code status ≡ 1)
run_complete None status held before now h c e none = inl (ap code h.usage ∙ ap (λ (x : Option (Course Work)). IfSome-status x) e) where
  IfSome-status : Option (Course Work) → ℕ
  IfSome-status None = 0
  IfSome-status (Some x) = status_of x.end
run_complete (Some order) Done held before now h c e none = inl (sym (ap status_of (some_here _ (Gave h.work before h.start) c e h.began.told).end))
run_complete (Some order) Usage held before now h c e none = absurd h
run_complete (Some order) (Stopped Memory) held before now h c e none = inr refl
run_complete (Some order) (Stopped (Faulty text)) held before now h c e none = inl (sym (ap status_of (some_here _ (Refuses (Faulty text) h.line before now) c e h.told).end))
run_complete (Some order) (Stopped Absent) held before now h c e none = inl (sym (ap status_of (some_here _ (Refuses Absent h.line before now) c e h.told).end))
run_complete (Some order) (Stopped ReadFault) held before now h c e none = absurd (none.reads h.cause)
run_complete (Some order) (Stopped Long) held before now h c e none = inl (sym (ap status_of (some_here _ (Refuses Long h.line before now) c e h.told).end))
run_complete (Some order) (Stopped Refuted) held before now h c e none = inl (sym (ap status_of (some_here _ (Refuses Refuted h.line before now) c e h.told).end))
run_complete (Some order) (Unwritten frame.Memory) held before now h c e none = inr refl
run_complete (Some order) (Unwritten (frame.Write slot)) held before now h c e none = absurd (none.picture (write_failed (Some order) slot (course_of (Some order) held) before now h).1)

pub run_steady : (order : Option Order) (status : Status) (course : Option (Course Work)) (before now : DeskState) → Runs order status course before now → IsTrue before.steady → before.faults ≡ no_faults → ¬ (code status ≡ 8) × ¬ (code status ≡ 9)
run_steady None status course before now h steady none =
    let u : code status ≡ 2 = ap code h.usage in (λ e. omega arith, λ e. omega arith)
run_steady (Some order) status course before now h steady none = tool_steady alone status course before now h steady none

-- ---- the record of a file

read_gave : (name : List ℕ) (r : Result Record Fault) (kept : Record) → unless_wrong name r ≡ Ok kept → r ≡ Ok kept
read_gave name (Ok a) kept e = ap Ok (ok_same a kept e)
read_gave name (Err fault) kept e = cc

kept_holds : (name : List ℕ) (files : Files) (kept : Record) → (kept_of name files).end ≡ Ok kept → Holds files name kept
kept_holds name files kept e =
    let t = went_through (text_of record_limit name files) (λ text. kept_text name text) kept e in
    record {
      text = t.value;
      found = within_gave record_limit name (files name) t.value t.stepped;
      whole = text_told t.value kept (read_gave name (record_in t.value) kept t.went);
    }

same_some : {A : Type 0} (a b : A) → ◌≡◌ {A = Option A} (Some a) (Some b) → a ≡ b
same_some a b e = cc

same_read : (a b : Record) → ◌≡◌ {A = Result Record Fault} (Ok a) (Ok b) → a ≡ b
same_read a b e = cc

-- a file is the text of one record
holds_one : (files : Files) (name : List ℕ) (a b : Record) → Holds files name a → Holds files name b → a ≡ b
holds_one files name a b x y =
    let text : x.text ≡ y.text = same_some x.text y.text (sym x.found ∙ y.found) in
    same_read a b (sym (text_read a.header a.lines x.text x.whole) ∙ ap record_in text ∙ text_read b.header b.lines y.text y.whole)

-- ---- the picture

-- the course gives the picture of a record that the file holds
map_gives : (order : Order) (files : Files) (work : Work) → (map_course order files).end ≡ Ok work → (kept : Record) × Holds files order.source kept × (work ≡ map_work order kept)
map_gives order files work e =
    let t = went_through (kept_of order.source files) (λ kept. at_once (Ok (map_work order kept))) work e in
    (t.value, kept_holds order.source files t.value t.stepped, sym (same_work (map_work order t.value) work t.went)) where
      same_work : (a b : Work) → (at_once (Ok a)).end ≡ Ok b → a ≡ b
      same_work a b e = ok_same a b e

module _ (words : List (List ℕ)) (before now : DeskState) (order : Order) where
  ends_of : (status : Status) → order_of words ≡ Some order → Runs (order_of words) status (outcome words before.held) before now → Ends status picture_file (told (map_course order) before.held) before now
  ends_of status e h = subst (λ o. Runs o status (course_of o before.held) before now) e h

  pub run_record : (status : Status) → Runs (order_of words) status (outcome words before.held) before now → status ≡ Done → order_of words ≡ Some order → HasRecord order before.held
  run_record status h done e =
      let f : Finished picture_file (told (map_course order) before.held) before now = run_done (Some order) status (told (map_course order) before.held) before now (ends_of status e h) done in
      some_as before.held (λ files. Gave f.work before f.start (map_course order files)) (λ files. (kept : Record) × Holds files order.source kept)
      (λ files gave. let g = map_gives order files f.work gave.end in (g.0, g.1)) (told_files (map_course order) before.held (Gave f.work before f.start) f.began.told)

  module _ (kept : Record) (is : IsMapOf words before.held order kept) where
    -- the work of the course is the picture of this record
    work_is : (work : Work) (start : DeskState) → IfSome (told (map_course order) before.held) (Gave work before start) → work ≡ map_work order kept
    work_is work start h =
        let gave = some_here (told (map_course order) before.held) (Gave work before start) (map_course order is.files) (ap (told (map_course order)) is.told) h in
        let g = map_gives order is.files work gave.end in
        g.2 ∙ ap (map_work order) (holds_one is.files order.source g.0 kept g.1 is.holds)

    work_made : (work : Work) (x y : DeskState) → work ≡ map_work order kept → Made work.calls x y → Made (map_calls order.picture order.kind kept) x y
    unfolding map_work
    work_made work x y same made = subst (λ (w : Work). Made w.calls x y) same made

    work_stopped : (stop : FrameStop) (work : Work) (x y : DeskState) → work ≡ map_work order kept → StoppedIn stop work.calls x y → StoppedIn stop (map_calls order.picture order.kind kept) x y
    unfolding map_work
    work_stopped stop work x y same h = subst (λ (w : Work). StoppedIn stop w.calls x y) same h

    finished_map : Finished picture_file (told (map_course order) before.held) before now → HasMap order kept before now
    finished_map f =
        let made = work_made f.work f.start now (work_is f.work f.start f.began.told) f.made in
        ap (λ s. s.picture) (made.slots ∙ ap (after_calls (map_calls order.picture order.kind kept)) f.began.reads.slots)
        ∙ map_left order.kind kept order.picture before.slots

    pub run_picture : (status : Status) → Runs (order_of words) status (outcome words before.held) before now → status ≡ Done → HasMap order kept before now
    run_picture status h done =
        finished_map (run_done (Some order) status (told (map_course order) before.held) before now (ends_of status is.order_is h) done)

    ends_part : (status : Status) → Ends status picture_file (told (map_course order) before.held) before now → LeavesMap order kept before now
    ends_part Done h = whole_part order.picture (map_bytes order.kind kept) before.slots.picture now.slots.picture (finished_map h)
    ends_part Usage h = absurd h
    ends_part (Stopped stop) h = inl (ap (λ s. s.picture) h.noted.slots)
    ends_part (Unwritten stop) h =
        let broke = work_stopped stop h.work h.start h.mid (work_is h.work h.start h.began.told) h.broke in
        part_between order.picture (map_bytes order.kind kept) before.slots.picture h.start.slots.picture h.mid.slots.picture now.slots.picture
        (ap (λ s. s.picture) h.began.reads.slots) (ap (λ s. s.picture) h.noted.slots) (map_stopped order.kind kept order.picture stop h.start h.mid broke)

    pub run_part : (status : Status) → Runs (order_of words) status (outcome words before.held) before now → LeavesMap order kept before now
    run_part status h = ends_part status (ends_of status is.order_is h)
