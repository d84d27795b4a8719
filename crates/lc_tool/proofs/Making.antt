-- What `make` leaves.
use Rattle.std.proofs.Common.{◌≡◌, ◌⊎◌, ℕ, ◌+◌, List, [], ◌∷◌, ◌++◌, length, take, refl, sym, ◌∙◌, ap, subst, inl, inr, Option, Some, None, IfSome, IfOk, IfErr, Ok, arith, ◌<◌, ◌≤◌, lit<, Contains, codes}
use Rattle.std.proofs.lemmas.List.Elements.{All-nil, All-cons, All-weaker, Contains-append_left}
use Rattle.std.proofs.Math.Seq.{take-length}
use Rattle.lc_num.specs.Faults.{Fault}
use Rattle.lc_desk.specs.Calls.{AreOn, BrokeOff, Call, Made as AreMade, after_calls, after_part, put, slot_of}
use Rattle.lc_desk.specs.Desk.{DeskState, Files, OnlyReads, SlotState, TookPart, appended}
use Rattle.lc_desk.specs.declared.desk.PutStop.{PutStop}
use Rattle.lc_desk.specs.declared.desk.PutStop.TheVariants as put_stop
use Rattle.lc_desk.specs.declared.desk.Slot.TheVariants.{Report}
use Rattle.lc_desk.proofs.CallLemmas.{AreOn-append, after_calls-append, appended-nil}
use Rattle.lc_job.specs.JobFile.{first_stop, job_in}
use Rattle.lc_job.specs.declared.job.Job.{Job}
use Rattle.lc_job.specs.declared.stop.JobStop.{JobStop}
use Rattle.lc_job.specs.declared.stop.JobStop.TheVariants as job_stop
use Rattle.lc_obj.specs.ObjFile as obj
use Rattle.lc_mtl.specs.MtlFile as mtl
use Rattle.lc_mtl.specs.declared.material.Material.{Material}
use Rattle.lc_light.specs.LightFile as light
use Rattle.lc_make.specs.Made.{made_of}
use Rattle.lc_make.specs.declared.made.Made.{Made}
use Rattle.lc_frame.specs.Files.{files as frame_files}
use Rattle.lc_frame.specs.Frames.{answers_of, evals_of, render_calls}
use Rattle.lc_frame.specs.Stops.{Broke, StoppedIn}
use Rattle.lc_frame.specs.declared.stop.FrameStop.{FrameStop}
use Rattle.lc_frame.specs.declared.stop.FrameStop.TheVariants as frame
use Rattle.lc_frame.proofs.LoopLemmas.{frame_after, frame_before}
use Rattle.lc_frame.proofs.WrittenLemmas.{calls_on, report_left}
use Rattle.lc_tool.specs.declared.status.Source.{Source}
use Rattle.lc_tool.specs.declared.status.Source.TheVariants as source
use Rattle.lc_tool.specs.declared.status.Status.{Status}
use Rattle.lc_tool.specs.declared.status.Status.TheVariants.{Done, Usage, Stopped, Unwritten}
use Rattle.lc_tool.specs.declared.status.Stop.TheVariants.{Absent, ReadFault, Long}
use Rattle.lc_tool.specs.declared.world.World.{World}
use Rattle.lc_tool.specs.Course.{Course, at_once, goes_on, refuses}
use Rattle.lc_tool.specs.Ends.{Counts, Ends, Runs, write_line}
use Rattle.lc_tool.specs.Noted.{Noted}
use Rattle.lc_tool.specs.Outcome.{course_of, job_text, library_text, lights_text, made_built, made_files, made_furnished, made_lit, made_world, make_course, make_work, mesh_text, outcome, unless_faulty, unless_stopped, world_by}
use Rattle.lc_tool.specs.Rendered.{AreCounted, HasSummary, IsMakeOf, LeavesParts, LeavesSummary, recorded}
use Rattle.lc_tool.specs.Status.{code, source_code}
use Rattle.lc_tool.specs.Stopped.{Gave, StoppedBy}
use Rattle.lc_tool.specs.Summaries.{summary_line}
use Rattle.lc_tool.specs.Words.{make, command_of}
use Rattle.lc_tool.specs.Work.{Work}
use Rattle.lc_tool.proofs.Parsing.{IsOfTexts, quiet_then, texts_then}
use Rattle.lc_tool.proofs.Rendering.{Rendered, broken_parts, no_parts, off_report, whole_parts, world_counted}
use Rattle.lc_tool.proofs.Running.{by_done, by_stop, is_done, off_stopped, some_here}
use Rattle.lc_tool.proofs.Through.{if_ok, ok_same}
use Rattle.lc_tool.proofs.Worlds.{IsWorld}

-- ---- the calls of a render, and a line on Report

module _ (number : ℕ) (world : World) where
  abbrev pub frame_calls : List Call
  frame_calls = render_calls world.job (answers_of world.job world.scene)

  abbrev pub line : List ℕ
  line = summary_line number (recorded world)

  abbrev pub all_calls : List Call
  all_calls = frame_calls ++ put Report line ∷ []

  on_files : (call : Call) → Contains frame_files (slot_of call) → Contains made_files (slot_of call)
  on_files call h = Contains-append_left frame_files (Report ∷ []) (slot_of call) h

  -- they are on the three slots
  pub make_on : AreOn made_files all_calls
  make_on =
      AreOn-append made_files frame_calls (put Report line ∷ [])
      (All-weaker (λ call. Contains frame_files (slot_of call)) (λ call. Contains made_files (slot_of call)) on_files frame_calls (calls_on world.job (answers_of world.job world.scene)))
      (All-cons (λ call. Contains made_files (slot_of call)) (put Report line) [] (2, lit< tt, refl) (All-nil (λ call. Contains made_files (slot_of call))))

  -- a call of the render was refused
  pub frame_stopped : (stop : FrameStop) (x y : DeskState) → StoppedIn stop frame_calls x y → StoppedIn stop all_calls x y
  frame_stopped (frame.Write slot) x y h = frame_before (frame.Write slot) frame_calls (put Report line ∷ []) x y h
  frame_stopped frame.Memory x y (inl same) = inl same
  frame_stopped frame.Memory x y (inr h) = inr (frame_before frame.Memory frame_calls (put Report line ∷ []) x y h)

  -- the line was refused
  pub line_stopped : (stop : FrameStop) (x y z : DeskState) → AreMade frame_calls x y → Broke stop (put Report line ∷ []) y z → StoppedIn stop all_calls x z
  line_stopped (frame.Write slot) x y z made h = frame_after (frame.Write slot) frame_calls (put Report line ∷ []) x y z made h
  line_stopped frame.Memory x y z made h = inr (frame_after frame.Memory frame_calls (put Report line ∷ []) x y z made h)

-- ---- where the last of some calls was refused, or one before it

record IsLast (a : List Call) (c : Call) (done : List Call) (refused : Call) : Type 0 where
  pub before : done ≡ a
  pub last : refused ≡ c

record IsEarly (a done : List Call) (refused : Call) : Type 0 where
  pub rest : List Call
  pub split : a ≡ done ++ refused ∷ rest

same_head : (x y : Call) (xs ys : List Call) → ◌≡◌ {A = List Call} (x ∷ xs) (y ∷ ys) → x ≡ y
same_head x y xs ys e = cc

same_tail : (x y : Call) (xs ys : List Call) → ◌≡◌ {A = List Call} (x ∷ xs) (y ∷ ys) → xs ≡ ys
same_tail x y xs ys e = cc

not_empty : (done : List Call) (refused : Call) (rest : List Call) → [] ≡ done ++ refused ∷ rest → ⊥
not_empty [] refused rest e = cc
not_empty (x ∷ xs) refused rest e = cc

last_or_early : (a : List Call) (c : Call) (done : List Call) (refused : Call) (rest : List Call) → a ++ c ∷ [] ≡ done ++ refused ∷ rest → IsLast a c done refused ⊎ IsEarly a done refused
last_or_early [] c [] refused rest e = inl (record { before = refl; last = sym (same_head c refused [] rest e) })
last_or_early [] c (d ∷ ds) refused rest e = absurd (not_empty ds refused rest (same_tail c d [] (ds ++ refused ∷ rest) e))
last_or_early (x ∷ xs) c [] refused rest e = inr (record { rest = xs; split = ap (λ h. h ∷ xs) (same_head x refused (xs ++ c ∷ []) rest e) })
last_or_early (x ∷ xs) c (d ∷ ds) refused rest e = later (last_or_early xs c ds refused rest (same_tail x d (xs ++ c ∷ []) (ds ++ refused ∷ rest) e)) where
  first : x ≡ d
  first = same_head x d (xs ++ c ∷ []) (ds ++ refused ∷ rest) e

  later : IsLast xs c ds refused ⊎ IsEarly xs ds refused → IsLast (x ∷ xs) c (d ∷ ds) refused ⊎ IsEarly (x ∷ xs) (d ∷ ds) refused
  later (inl h) = inl (record { before = ap (λ h. h ∷ ds) (sym first) ∙ ap (λ l. x ∷ l) h.before; last = h.last })
  later (inr h) = inr (record { rest = h.rest; split = ap (λ h. h ∷ xs) first ∙ ap (λ l. d ∷ l) h.split })

-- ---- what is left where a call was refused

module _ (number : ℕ) (world : World) where
  -- all of the render was written and a part of the line, or the render broke off and Report is as it was
  abbrev pub LeftBroken : FrameStop → DeskState → DeskState → Type 0
  LeftBroken stop x y = (Rendered world x y × TookPart (line number world) x.slots.report y.slots.report) ⊎ (StoppedIn stop (frame_calls number world) x y × (y.slots.report ≡ x.slots.report))

  line_left : (why : PutStop) (x y : DeskState) (b : BrokeOff why (all_calls number world) x y) → IsLast (frame_calls number world) (put Report (line number world)) b.done b.refused → Rendered world x y × TookPart (line number world) x.slots.report y.slots.report
  line_left why x y b h =
      let slots : y.slots ≡ after_part b.taken (put Report (line number world)) (after_calls (frame_calls number world) x.slots) =
      b.slots ∙ ap (λ r. after_part b.taken r (after_calls b.done x.slots)) h.last ∙ ap (λ d. after_part b.taken (put Report (line number world)) (after_calls d x.slots)) h.before in (
        record { picture = ap (λ s. s.picture) slots; bounds = ap (λ s. s.bounds) slots },
        record {
          count = b.taken;
          held = ap (λ s. s.report) slots ∙ ap (appended (take b.taken (line number world))) (report_left world.job (answers_of world.job world.scene) x.slots);
        },
      )

  early : (why : PutStop) (x y : DeskState) (b : BrokeOff why (all_calls number world) x y) → IsEarly (frame_calls number world) b.done b.refused → BrokeOff why (frame_calls number world) x y
  early why x y b h = record {
    done = b.done;
    refused = b.refused;
    rest = h.rest;
    split = h.split;
    taken = b.taken;
    later = b.later;
    slots = b.slots;
    asked = b.asked;
    begins = b.begins;
    cause = b.cause;
  }

  broke_early : (stop : FrameStop) (x y : DeskState) → StoppedIn stop (frame_calls number world) x y → LeftBroken stop x y
  broke_early stop x y h = inr (h, off_stopped stop Report frame_files (frame_calls number world) x y off_report (calls_on world.job (answers_of world.job world.scene)) h)

  pub left_broken : (stop : FrameStop) (x y : DeskState) → StoppedIn stop (all_calls number world) x y → LeftBroken stop x y
  unfolding early
  left_broken (frame.Write slot) x y h = go (last_or_early (frame_calls number world) (put Report (line number world)) h.0.done h.0.refused h.0.rest h.0.split) where
    go : IsLast (frame_calls number world) (put Report (line number world)) h.0.done h.0.refused ⊎ IsEarly (frame_calls number world) h.0.done h.0.refused → LeftBroken (frame.Write slot) x y
    go (inl last) = inl (line_left put_stop.Failed x y h.0 last)
    go (inr before) = broke_early (frame.Write slot) x y (early put_stop.Failed x y h.0 before, h.1)
  left_broken frame.Memory x y (inl same) = broke_early frame.Memory x y (inl same)
  left_broken frame.Memory x y (inr h) = go (last_or_early (frame_calls number world) (put Report (line number world)) h.done h.refused h.rest h.split) where
    go : IsLast (frame_calls number world) (put Report (line number world)) h.done h.refused ⊎ IsEarly (frame_calls number world) h.done h.refused → LeftBroken frame.Memory x y
    go (inl last) = inl (line_left put_stop.Memory x y h last)
    go (inr before) = broke_early frame.Memory x y (inr (early put_stop.Memory x y h before))

  -- ---- where all calls were made

  pub made_rendered : (before start now : DeskState) → OnlyReads before start → AreMade (all_calls number world) start now → Rendered world before now
  made_rendered before start now reads made =
      let slots : now.slots ≡ after_calls (put Report (line number world) ∷ []) (after_calls (frame_calls number world) before.slots) =
      made.slots ∙ ap (after_calls (all_calls number world)) reads.slots ∙ after_calls-append (frame_calls number world) (put Report (line number world) ∷ []) before.slots in
      record { picture = ap (λ s. s.picture) slots; bounds = ap (λ s. s.bounds) slots }

  pub made_line : (before start now : DeskState) → OnlyReads before start → AreMade (all_calls number world) start now → HasSummary number world before now
  made_line before start now reads made =
      ap (λ s. s.report) (made.slots ∙ ap (after_calls (all_calls number world)) reads.slots ∙ after_calls-append (frame_calls number world) (put Report (line number world) ∷ []) before.slots)
      ∙ ap (appended (line number world)) (report_left world.job (answers_of world.job world.scene) before.slots)

-- ---- the outcome of a make

make_goes : (words : List (List ℕ)) (held : Option Files) (world : World) (m : IsMakeOf words world) → outcome words held ≡ Some (make_course m.number)
make_goes words held world m = ap (λ o. course_of o held) m.command

make_end : (number : ℕ) (world : World) → (made_world (made_of number)).end ≡ Ok world → (make_course number).end ≡ Ok (make_work number world)
make_end number world e = ap (λ end. (goes_on (made_world (made_of number)).reads end (λ w. at_once (Ok (make_work number w)))).end) e

same_work : (words : List (List ℕ)) (before start : DeskState) (work : Work) (world : World) (m : IsMakeOf words world) → IfSome (outcome words before.held) (Gave work before start) → work ≡ make_work m.number world
same_work words before start work world m h =
    let gave = some_here (outcome words before.held) (Gave work before start) (make_course m.number) (make_goes words before.held world m) h in
    ok_same work (make_work m.number world) (sym gave.end ∙ make_end m.number world m.tells)

is_make : (words : List (List ℕ)) (status : Status) (before now : DeskState) (world : World) → IsMakeOf words world → Runs (command_of words) status (outcome words before.held) before now → Ends status made_files (outcome words before.held) before now
is_make words status before now world m h = subst (λ o. Runs o status (outcome words before.held) before now) m.command h

work_made : (number : ℕ) (world : World) (work : Work) (start now : DeskState) → work ≡ make_work number world → AreMade work.calls start now → AreMade (all_calls number world) start now
unfolding make_work
work_made number world work start now same made = subst (λ (w : Work). AreMade w.calls start now) same made

work_stopped : (stop : FrameStop) (number : ℕ) (world : World) (work : Work) (x y : DeskState) → work ≡ make_work number world → StoppedIn stop work.calls x y → StoppedIn stop (all_calls number world) x y
unfolding make_work
work_stopped stop number world work x y same h = subst (λ (w : Work). StoppedIn stop w.calls x y) same h

-- ---- where all is done

pub make_done : (words : List (List ℕ)) (status : Status) (before now : DeskState) (world : World) → IsMakeOf words world → Runs (command_of words) status (outcome words before.held) before now → code status ≡ 0 → Rendered world before now
make_done words status before now world m h zero =
    let f = by_done (command_of words) status (outcome words before.held) before now h zero in
    made_rendered m.number world before f.start now f.began.reads (work_made m.number world f.work f.start now (same_work words before f.start f.work world m f.began.told) f.made)

pub make_summary : (words : List (List ℕ)) (status : Status) (before now : DeskState) (world : World) (m : IsMakeOf words world) → Runs (command_of words) status (outcome words before.held) before now → code status ≡ 0 → HasSummary m.number world before now
make_summary words status before now world m h zero =
    let f = by_done (command_of words) status (outcome words before.held) before now h zero in
    made_line m.number world before f.start now f.began.reads (work_made m.number world f.work f.start now (same_work words before f.start f.work world m f.began.told) f.made)

make_evals : (number : ℕ) (world : World) (steps_before steps_now : ℕ) → steps_now ≡ steps_before + (make_work number world).evals → steps_now ≡ steps_before + evals_of (recorded world)
unfolding make_work
make_evals number world steps_before steps_now e = e

pub make_counted : (words : List (List ℕ)) (status : Status) (held : Option Files) (world : World) (steps_before steps_now : ℕ) → IsMakeOf words world → IsWorld world → Counts status (outcome words held) steps_before steps_now → code status ≡ 0 → AreCounted world steps_before steps_now
make_counted words status held world steps_before steps_now m valid counts zero =
    world_counted world steps_before steps_now valid
    (make_evals m.number world steps_before steps_now
    (if_ok (make_course m.number).end (make_work m.number world) (λ w. steps_now ≡ steps_before + w.evals) (make_end m.number world m.tells)
    (some_here (outcome words held) (λ c. IfOk c.end (λ w. steps_now ≡ steps_before + w.evals)) (make_course m.number) (make_goes words held world m) (counts (is_done status zero)))))

-- ---- whatever the status

record Leaves (number : ℕ) (world : World) (before now : DeskState) : Type 0 where
  pub parts : LeavesParts world before now
  pub summary : LeavesSummary number world before now

-- nothing more on Report
no_more : (bytes : List ℕ) (before now : SlotState) → now ≡ before → TookPart bytes before now
no_more bytes before now e = record { count = 0; held = e ∙ sym (appended-nil before) }

all_more : (bytes : List ℕ) (before now : SlotState) → now ≡ appended bytes before → TookPart bytes before now
all_more bytes before now e = record { count = length bytes; held = e ∙ ap (λ b. appended b before) (sym (take-length bytes)) }

part_more : (bytes : List ℕ) (before x y now : SlotState) → x ≡ before → now ≡ y → TookPart bytes x y → TookPart bytes before now
part_more bytes before x y now e f h = record { count = h.count; held = f ∙ h.held ∙ ap (appended (take h.count bytes)) e }

broken_leaves : (number : ℕ) (world : World) (stop : FrameStop) (before start mid now : DeskState) → OnlyReads before start → LeftBroken number world stop start mid → Noted (write_line stop) mid now → Leaves number world before now
broken_leaves number world stop before start mid now reads (inl h) noted = record {
  parts = whole_parts world before now (record {
    picture = ap (λ s. s.picture) noted.slots ∙ h.0.picture ∙ ap (λ s. (after_calls (frame_calls number world) s).picture) reads.slots;
    bounds = ap (λ s. s.bounds) noted.slots ∙ h.0.bounds ∙ ap (λ s. (after_calls (frame_calls number world) s).bounds) reads.slots;
  });
  summary = part_more (line number world) before.slots.report start.slots.report mid.slots.report now.slots.report (ap (λ s. s.report) reads.slots) (ap (λ s. s.report) noted.slots) h.1;
}
broken_leaves number world stop before start mid now reads (inr h) noted = record {
  parts = broken_parts world stop before start mid now (write_line stop) reads h.0 noted;
  summary = no_more (line number world) before.slots.report now.slots.report (ap (λ s. s.report) noted.slots ∙ h.1 ∙ ap (λ s. s.report) reads.slots);
}

ends_leaves : (words : List (List ℕ)) (status : Status) (before now : DeskState) (world : World) (m : IsMakeOf words world) → Ends status made_files (outcome words before.held) before now → Leaves m.number world before now
ends_leaves words Done before now world m h =
    let made = work_made m.number world h.work h.start now (same_work words before h.start h.work world m h.began.told) h.made in
    record {
      parts = whole_parts world before now (made_rendered m.number world before h.start now h.began.reads made);
      summary = all_more (line m.number world) before.slots.report now.slots.report (made_line m.number world before h.start now h.began.reads made);
    }
ends_leaves words Usage before now world m h = absurd h
ends_leaves words (Stopped stop) before now world m h = record {
  parts = no_parts world before now h.line h.noted;
  summary = no_more (line m.number world) before.slots.report now.slots.report (ap (λ s. s.report) h.noted.slots);
}
ends_leaves words (Unwritten stop) before now world m h =
    broken_leaves m.number world stop before h.start h.mid now h.began.reads
    (left_broken m.number world stop h.start h.mid (work_stopped stop m.number world h.work h.start h.mid (same_work words before h.start h.work world m h.began.told) h.broke)) h.noted

pub make_parts : (words : List (List ℕ)) (status : Status) (before now : DeskState) (world : World) → IsMakeOf words world → Runs (command_of words) status (outcome words before.held) before now → LeavesParts world before now
make_parts words status before now world m h = (ends_leaves words status before now world m (is_make words status before now world m h)).parts

pub make_summary_part : (words : List (List ℕ)) (status : Status) (before now : DeskState) (world : World) (m : IsMakeOf words world) → Runs (command_of words) status (outcome words before.held) before now → LeavesSummary m.number world before now
make_summary_part words status before now world m h = (ends_leaves words status before now world m (is_make words status before now world m h)).summary

-- ---- no file is read, so none is absent, faulty or too long

made_quiet : (made : Made) → (made_world made).reads ≡ []
unfolding made_world
made_quiet made =
    quiet_then (job_text (codes "made.txt") made.job) (made_built made) refl
    (λ job. quiet_then (mesh_text (codes "made.obj") made.obj) (made_furnished made job) refl
    (λ mesh. quiet_then (library_text [] (codes "made.mtl") made.mtl) (made_lit made job mesh) refl
    (λ items. quiet_then (lights_text (codes "made.lights") job.seed made.lights) (λ lights. at_once (Ok (world_by job mesh items lights))) refl (λ lights. refl))))

make_quiet : (number : ℕ) → (make_course number).reads ≡ []
make_quiet number = quiet_then (made_world (made_of number)) (λ world. at_once (Ok (make_work number world))) (made_quiet (made_of number)) (λ world. refl)

stopped_texts : (name : List ℕ) (found : Option JobStop) (job : Job) → IsOfTexts (at_once (unless_stopped name found job))
stopped_texts name None job = tt
stopped_texts name (Some job_stop.Memory) job = tt
stopped_texts name (Some (job_stop.Fault line kind)) job = (omega arith, omega arith)
stopped_texts name (Some (job_stop.Missing key)) job = (omega arith, omega arith)

source_least : (text : Source) → 3 ≤ source_code text
source_least source.Job = omega arith
source_least source.Scene = omega arith
source_least source.Library = omega arith
source_least source.Lights = omega arith
source_least source.Record = omega arith

faulty_texts : {A : Type 0} (text : Source) (name : List ℕ) (found : Option Fault) (value : A) → source_code text ≤ 6 → IsOfTexts (at_once (unless_faulty text name found value))
faulty_texts text name None value few = tt
faulty_texts text name (Some fault) value few = (source_least text, few)

made_texts : (made : Made) → IsOfTexts (made_world made)
unfolding made_world
made_texts made =
    texts_then (job_text (codes "made.txt") made.job) (made_built made) (stopped_texts (codes "made.txt") (first_stop made.job) (job_in made.job))
    (λ job. texts_then (mesh_text (codes "made.obj") made.obj) (made_furnished made job) (faulty_texts source.Scene (codes "made.obj") (obj.fault_in made.obj) (obj.mesh made.obj) (omega arith))
    (λ mesh. texts_then (library_text [] (codes "made.mtl") made.mtl) (made_lit made job mesh) (faulty_texts source.Library (codes "made.mtl") (mtl.fault_in (length {A = Material} []) made.mtl) (mtl.materials [] made.mtl) (omega arith))
    (λ items. texts_then (lights_text (codes "made.lights") job.seed made.lights) (λ lights. at_once (Ok (world_by job mesh items lights))) (faulty_texts source.Lights (codes "made.lights") (light.fault_in made.lights) (light.lights made.lights job.seed) (omega arith))
    (λ lights. tt))))

make_texts : (number : ℕ) → IsOfTexts (make_course number)
make_texts number = texts_then (made_world (made_of number)) (λ world. at_once (Ok (make_work number world))) (made_texts (made_of number)) (λ world. tt)

not_texts : (course : Course Work) (status : ℕ) (line : List ℕ) → 6 < status → IsOfTexts course → course.end ≡ refuses status line → ⊥
not_texts course status line more texts e = let h = subst (λ end. IfErr end (λ r. (3 ≤ r.status) × (r.status ≤ 6))) e texts in omega (arith, h.1)

none_there : (name : List ℕ) → Contains [] name → ⊥
none_there name (k, lt, e) = omega arith

pub make_never : (number : ℕ) (status : Status) (held : Option Files) (before now : DeskState) → Runs (Some (make number)) status (course_of (Some (make number)) held) before now → ¬ (code status ≡ 7) × ¬ (code status ≡ 8) × ¬ (code status ≡ 10)
make_never number status held before now h = (seven, eight, ten) where
  seven : ¬ (code status ≡ 7)
  seven e =
      let s : StoppedBy Absent (Some (make_course number)) before now = by_stop (Some (make number)) status Absent (Some (make_course number)) before now h (omega arith) e in
      not_texts (make_course number) 7 s.line (omega arith) (make_texts number) s.told.end

  eight : ¬ (code status ≡ 8)
  eight e =
      let s : StoppedBy ReadFault (Some (make_course number)) before now = by_stop (Some (make number)) status ReadFault (Some (make_course number)) before now h (omega arith) e in
      none_there s.told.reached.name (subst (λ reads. Contains reads s.told.reached.name) (make_quiet number) s.told.reached.read)

  ten : ¬ (code status ≡ 10)
  ten e =
      let s : StoppedBy Long (Some (make_course number)) before now = by_stop (Some (make number)) status Long (Some (make_course number)) before now h (omega arith) e in
      not_texts (make_course number) 10 s.line (omega arith) (make_texts number) s.told.end
