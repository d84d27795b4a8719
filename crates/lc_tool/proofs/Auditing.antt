-- What `audit` says, and what it leaves.
use Rattle.std.proofs.Common.{◌≡◌, ◌⊎◌, ℕ, List, [], ◌∷◌, length, map, refl, sym, ◌∙◌, ap, subst, arith, inl, inr, Option, Some, None, IfSome, IfOk, Result, Ok, Err, cond, Contains, ◌+◌}
use Rattle.std.proofs.lemmas.Bool.{le-ltb}
use Rattle.std.proofs.lemmas.List.{length-map}
use Rattle.std.proofs.lemmas.List.Elements.{All-nil, All-cons, All-contains}
use Rattle.lc_desk.specs.Calls.{after_calls, put, slot_of}
use Rattle.lc_desk.specs.Causes.{Rose}
use Rattle.lc_desk.specs.Desk.{DeskState, Files, appended}
use Rattle.lc_desk.specs.Slots.{slot_at}
use Rattle.lc_desk.specs.declared.desk.Slot.{Slot}
use Rattle.lc_desk.specs.declared.desk.Slot.TheVariants.{Picture, Bounds, Report}
use Rattle.lc_rated.specs.declared.answer.Answer.{Answer}
use Rattle.lc_view.specs.Samples.{sample_rays}
use Rattle.lc_view.proofs.SampleLemmas.{sample_rays-length}
use Rattle.lc_sample.proofs.SampleLemmas.{sample_bound, sample_est, sample_evals, sample_size}
use Rattle.lc_record.specs.Reading.{IsTextOf}
use Rattle.lc_record.specs.Record.{IsSample}
use Rattle.lc_record.specs.declared.reader.Record.{Record}
use Rattle.lc_record.proofs.Told.{text_read}
use Rattle.lc_audit.specs.Verdicts.{Place, looked_at, verdict, verdict_by}
use Rattle.lc_audit.specs.declared.verdict.Miss.{Miss}
use Rattle.lc_audit.specs.declared.verdict.Verdict.{Verdict}
use Rattle.lc_audit.specs.declared.verdict.Verdict.TheVariants.{Yes, No}
use Rattle.lc_audit.proofs.Promises.{named_fails, own_yes, some_hold}
use Rattle.lc_frame.specs.Frames.{header_of}
use Rattle.lc_tool.specs.declared.status.Status.{Status}
use Rattle.lc_tool.specs.declared.status.Status.TheVariants.{Done, Usage, Stopped, Unwritten}
use Rattle.lc_tool.specs.declared.status.Stop.TheVariants.{Refuted}
use Rattle.lc_tool.specs.declared.world.World.{World}
use Rattle.lc_tool.specs.Audited.{AuditFails, AuditHolds, HasNoAuditFault, IsAuditOf, IsOwnRecord, KeepsFiles}
use Rattle.lc_tool.specs.Course.{Course, Refusal, at_once, goes_on, refuses, told}
use Rattle.lc_tool.specs.Ends.{Counts, Ends, IsFaultless, Runs}
use Rattle.lc_tool.specs.Lines.{long_line, miss_line, record_limit}
use Rattle.lc_tool.specs.Noted.{Noted}
use Rattle.lc_tool.specs.Outcome.{audit_course, audit_world, audited, course_of, judged, kept_of, kept_text, outcome, record_of, same_header, status_of, unless_wrong, within, world_of, yes_line}
use Rattle.lc_tool.specs.Rendered.{TellsRecord, recorded}
use Rattle.lc_tool.specs.Status.{code}
use Rattle.lc_tool.specs.Stopped.{Gave, RefusedBy, StoppedBy}
use Rattle.lc_tool.specs.Words.{audit, command_of}
use Rattle.lc_tool.specs.Work.{Work, calls_of}
use Rattle.lc_tool.proofs.Courses.{reads_nothing}
use Rattle.lc_tool.proofs.Records.{header_is, record_status, record_through, refused_through, same_is}
use Rattle.lc_tool.proofs.Rendering.{each_recorded, recorded_are, sample_in}
use Rattle.lc_tool.proofs.Running.{AreOff, by_done, by_stop, off_made, off_stopped, run_complete, some_here}
use Rattle.lc_tool.proofs.Through.{went_through}
use Rattle.lc_tool.proofs.Worlds.{IsWorld, world_is}

-- ---- the verdict

-- a verdict that is no
pub refuted_stops : (miss : Miss) (course : Course Work) (x y : DeskState) → course ≡ at_once (refuses 11 (miss_line miss)) → Noted (miss_line miss) x y
    → y.asked ≡ x.asked → StoppedBy Refuted (Some course) x y
refuted_stops miss course x y is noted same = record {
  line = miss_line miss;
  form = (miss, refl);
  cause = tt;
  told = subst (RefusedBy 11 (miss_line miss) x y) (sym is) refusal;
  noted = noted;
} where
  refusal : RefusedBy {A = Work} 11 (miss_line miss) x y (at_once (refuses 11 (miss_line miss)))
  refusal = record { end = refl; read = same ∙ reads_nothing x }

abbrev pub yes_work : ℕ → Work
yes_work checked = record { calls = put Report (yes_line checked) ∷ []; evals = 0 }

judged_yes : (v : Verdict) (w : Work) → judged v ≡ Ok w → (checked : ℕ) × (v ≡ Yes checked) × (w ≡ yes_work checked)
judged_yes (Yes checked) w e = (checked, refl, cc)
judged_yes (No miss) w e = cc

judged_no : (v : Verdict) (r : Refusal) → judged v ≡ Err r → (miss : Miss) × (v ≡ No miss)
judged_no (Yes checked) r e = cc
judged_no (No miss) r e = (miss, refl)

checked_by : (n checked : ℕ) (o : Option Place) → verdict_by n o ≡ Yes checked → n ≡ checked
checked_by n checked None e = cc
checked_by n checked (Some p) e = cc

-- ---- the outcome where the words are an audit and the files tell its world

module _ (words : List (List ℕ)) (held : Option Files) (world : World) (text : List ℕ) (a : IsAuditOf words held world text) where
  abbrev whole_course : Course Work
  whole_course = audit_course a.name a.step a.files

  goes : outcome words held ≡ Some whole_course
  goes = ap (λ o. course_of o held) a.command ∙ ap (course_of (Some (audit a.name a.step))) a.told

  ends_as : whole_course.end ≡ (audit_world a.step world a.files).end
  ends_as = ap (λ end. (goes_on (world_of a.name a.files).reads end (λ w. audit_world a.step w a.files)).end) a.tells

  valid : IsWorld world
  valid = world_is a.name a.files world a.tells

  kept_whole : (kept : Record) → (record_of world.job a.files).end ≡ Ok kept → IsTextOf (header_of world.job) kept.lines text
  kept_whole kept e =
      let k = record_through world.job a.files kept valid.job e in
      let same : k.text ≡ text = let both = sym k.read ∙ a.kept in cc in
      subst (IsTextOf (header_of world.job) kept.lines) same k.whole

  -- a course that is done
  record Judged (work : Work) : Type 0 where
    lines : List Answer
    whole : IsTextOf (header_of world.job) lines text
    checked : ℕ
    yes : verdict world.scene world.job lines a.step ≡ Yes checked
    is : work ≡ yes_work checked

  judged_done : (work : Work) → whole_course.end ≡ Ok work → Judged work
  judged_done work e =
      let t = went_through (record_of world.job a.files) (λ kept. audited a.step world kept) work (sym ends_as ∙ e) in
      let v = judged_yes (verdict world.scene world.job t.value.lines a.step) work t.went in
      record { lines = t.value.lines; whole = kept_whole t.value t.stepped; checked = v.0; yes = v.1; is = v.2 }

  judged_refused : (line : List ℕ) → whole_course.end ≡ refuses 11 line → AuditFails a.step world text
  judged_refused line e = go (refused_through (record_of world.job a.files) (λ kept. audited a.step world kept) r (sym ends_as ∙ e)) where
    r : Refusal
    r = record { status = 11; line = line }

    go : ((record_of world.job a.files).end ≡ Err r) ⊎ ((kept : Record) × ((record_of world.job a.files).end ≡ Ok kept) × ((audited a.step world kept).end ≡ Err r)) → AuditFails a.step world text
    go (inl e) = absurd (record_status world.job a.files r e refl)
    go (inr t) =
        let v = judged_no (verdict world.scene world.job t.0.lines a.step) r t.2 in
        record {
          lines = t.0.lines;
          whole = kept_whole t.0 t.1;
          miss = v.0;
          first = v.1;
          fails = named_fails world.scene world.job t.0.lines a.step v.0 v.1;
        }

  -- ---- the record of a render

  own_lines : recorded world ≡ map (sample_in world) (sample_rays world.job.camera)
  unfolding sample_rays
  own_lines = recorded_are world

  own_text : IsOwnRecord world text → IsTextOf (header_of world.job) (recorded world) text
  own_text own = record {
    header = header_is world.job valid.job;
    valid = each_recorded (IsSample world.job.cut) world (λ ray. record {
      size = sample_size world.job.cut world.job.permille world.job.rule world.scene ray valid.job.cut_some;
      evals = sample_evals world.job.cut world.job.permille world.job.rule world.scene ray valid.job.cut_some;
      est = sample_est world.job.cut world.job.permille world.job.rule world.scene ray valid.scene;
      bound = sample_bound world.job.cut world.job.permille world.job.rule world.scene ray valid.scene;
    });
    count = ap length own_lines ∙ length-map (sample_rays world.job.camera) (sample_in world) ∙ sample_rays-length world.job.camera;
    whole = own.same;
  }

  abbrev own_kept : Record
  own_kept = record { header = header_of world.job; lines = recorded world }

  own_read : IsOwnRecord world text → (kept_of world.job.bounds a.files).end ≡ Ok own_kept
  own_read own =
      ap (λ end. (goes_on (world.job.bounds ∷ []) end (λ t. kept_text world.job.bounds t)).end)
      (ap (within record_limit world.job.bounds) a.kept ∙ ap (λ b. cond b (refuses 10 (long_line record_limit world.job.bounds)) (Ok text)) (le-ltb record_limit (length text) own.short))
      ∙ ap (unless_wrong world.job.bounds) (text_read (header_of world.job) (recorded world) text (own_text own))

  own_record : IsOwnRecord world text → (record_of world.job a.files).end ≡ Ok own_kept
  unfolding record_of
  own_record own =
      ap (λ end. (goes_on (kept_of world.job.bounds a.files).reads end (λ k. same_header world.job.bounds world.job k)).end) (own_read own)
      ∙ ap (λ (c : Course Record). c.end) (same_is world.job.bounds world.job own_kept refl)

  abbrev own_checked : ℕ
  own_checked = length (looked_at world.scene world.job (recorded world) a.step)

  own_done : IsOwnRecord world text → whole_course.end ≡ Ok (yes_work own_checked)
  own_done own =
      ends_as ∙ ap (λ end. (goes_on (record_of world.job a.files).reads end (λ kept. audited a.step world kept)).end) (own_record own)
      ∙ ap judged (own_yes world.job.rule world.scene world.job valid.scene valid.job.cut_some (recorded world) a.step own_lines)

-- ---- clauses by the number

report_line : (checked : ℕ) (work : Work) (before start now : DeskState) → work ≡ yes_work checked → start.slots ≡ before.slots → now.slots ≡ after_calls work.calls start.slots
    → now.slots.report ≡ appended (yes_line checked) before.slots.report
report_line checked work before start now is same made =
    ap (λ s. s.report) (made ∙ ap (λ (w : Work). after_calls w.calls start.slots) is ∙ ap (after_calls (yes_work checked).calls) same)

checked_all : (world : World) (lines : List Answer) (step checked : ℕ) → verdict world.scene world.job lines step ≡ Yes checked
    → length (looked_at world.scene world.job lines step) ≡ checked
unfolding verdict
checked_all world lines step checked e = checked_by (length (looked_at world.scene world.job lines step)) checked _ e

pub run_audit_yes : (words : List (List ℕ)) (status : Status) (before now : DeskState) (world : World) (text : List ℕ) (a : IsAuditOf words before.held world text)
    → Runs (command_of words) status (outcome words before.held) before now → code status ≡ 0 → AuditHolds a.step world text before now
run_audit_yes words status before now world text a h zero =
    let f = by_done (command_of words) status (outcome words before.held) before now h zero in
    let gave = some_here (outcome words before.held) (Gave f.work before f.start) (whole_course words before.held world text a) (goes words before.held world text a) f.began.told in
    let j = judged_done words before.held world text a f.work gave.end in
    record {
      lines = j.lines;
      whole = j.whole;
      hold = λ k on. some_hold world.scene world.job j.lines a.step j.checked k j.yes on;
      told = report_line j.checked f.work before f.start now j.is f.began.reads.slots f.made.slots
          ∙ ap (λ n. appended (yes_line n) before.slots.report) (sym (checked_all world j.lines a.step j.checked j.yes));
    }

pub run_audit_no : (words : List (List ℕ)) (status : Status) (before now : DeskState) (world : World) (text : List ℕ) (a : IsAuditOf words before.held world text)
    → Runs (command_of words) status (outcome words before.held) before now → code status ≡ 11 → AuditFails a.step world text
run_audit_no words status before now world text a h e =
    let s = by_stop (command_of words) status Refuted (outcome words before.held) before now h (omega arith) e in
    let r = some_here (outcome words before.held) (RefusedBy 11 s.line before now) (whole_course words before.held world text a) (goes words before.held world text a) s.told in
    judged_refused words before.held world text a s.line r.end

only_report : (slot : Slot) → Contains (Report ∷ []) slot → slot ≡ Report
only_report slot c = All-contains (λ s. s ≡ Report) (Report ∷ []) slot (All-cons (λ s. s ≡ Report) Report [] refl (All-nil (λ s. s ≡ Report))) c

own_faultless : (c : Course Work) (checked : ℕ) (before now : DeskState) → c.end ≡ Ok (yes_work checked) → HasNoAuditFault before now → IsFaultless c before now
own_faultless c checked before now e h = record {
  reads = h.reads;
  slots = λ slot called rose. h.report (subst (λ s. Rose (slot_at before.faults.puts s) (slot_at now.faults.puts s))
      (only_report slot (subst (λ end. Contains (map slot_of (calls_of end)) slot) e called)) rose);
}

-- the record of a render is never refuted
pub run_audit_own : (words : List (List ℕ)) (status : Status) (before now : DeskState) (world : World) (text : List ℕ) → IsAuditOf words before.held world text
    → IsOwnRecord world text → HasNoAuditFault before now → Runs (command_of words) status (outcome words before.held) before now → (code status ≡ 0) ⊎ (code status ≡ 1)
run_audit_own words status before now world text a own faultless h =
    let c = whole_course words before.held world text a in
    let e = own_done words before.held world text a own in
    zero c (yes_work (own_checked words before.held world text a)) (run_complete (command_of words) status before.held before now h c (goes words before.held world text a)
    (own_faultless c (own_checked words before.held world text a) before now e faultless)) e where
      zero : (c : Course Work) (w : Work) → (code status ≡ status_of c.end) ⊎ (code status ≡ 1) → c.end ≡ Ok w → (code status ≡ 0) ⊎ (code status ≡ 1)
      zero c w (inl same) e = inl (same ∙ ap status_of e)
      zero c w (inr one) e = inr one

-- ---- whatever the status

off_picture : AreOff Picture (Report ∷ [])
off_picture = All-cons (λ s. s ≡ Picture → ⊥) Report [] (λ e. cc) (All-nil (λ s. s ≡ Picture → ⊥))

off_bounds : AreOff Bounds (Report ∷ [])
off_bounds = All-cons (λ s. s ≡ Bounds → ⊥) Report [] (λ e. cc) (All-nil (λ s. s ≡ Bounds → ⊥))

ends_keep : (status : Status) (course : Option (Course Work)) (before now : DeskState) → Ends status (Report ∷ []) course before now → KeepsFiles before now
ends_keep Done course before now h = record {
  picture = off_made Picture (Report ∷ []) h.work.calls h.start now off_picture h.began.on h.made ∙ ap (λ s. s.picture) h.began.reads.slots;
  bounds = off_made Bounds (Report ∷ []) h.work.calls h.start now off_bounds h.began.on h.made ∙ ap (λ s. s.bounds) h.began.reads.slots;
}
ends_keep Usage course before now h = absurd h
ends_keep (Stopped stop) course before now h = record { picture = ap (λ s. s.picture) h.noted.slots; bounds = ap (λ s. s.bounds) h.noted.slots }
ends_keep (Unwritten stop) course before now h = record {
  picture = ap (λ s. s.picture) h.noted.slots ∙ off_stopped stop Picture (Report ∷ []) h.work.calls h.start h.mid off_picture h.began.on h.broke
      ∙ ap (λ s. s.picture) h.began.reads.slots;
  bounds = ap (λ s. s.bounds) h.noted.slots ∙ off_stopped stop Bounds (Report ∷ []) h.work.calls h.start h.mid off_bounds h.began.on h.broke
      ∙ ap (λ s. s.bounds) h.began.reads.slots;
}

pub run_audit_keeps : (words : List (List ℕ)) (status : Status) (before now : DeskState) (name : List ℕ) (step : ℕ) → command_of words ≡ Some (audit name step)
    → Runs (command_of words) status (outcome words before.held) before now → KeepsFiles before now
run_audit_keeps words status before now name step e h =
    ends_keep status (outcome words before.held) before now (subst (λ o. Runs o status (outcome words before.held) before now) e h)

-- ---- files tell a world and its record

record_told : (name : List ℕ) (step : ℕ) (files : Files) (w : Work) → (audit_course name step files).end ≡ Ok w → TellsRecord name files
record_told name step files w e =
    let t = went_through (world_of name files) (λ world. audit_world step world files) w e in
    let u = went_through (record_of t.value.job files) (λ kept. audited step t.value kept) w t.went in
    let k = record_through t.value.job files u.value (world_is name files t.value t.stepped).job u.stepped in
    (t.value, k.text, t.stepped, k.read)

pub given_record : (name : List ℕ) (step : ℕ) (held : Option Files) (w : Work) (before start : DeskState) → IfSome (course_of (Some (audit name step)) held) (Gave w before start)
    → IfSome held (TellsRecord name)
given_record name step None w before start gave = tt
given_record name step (Some files) w before start gave = record_told name step files w gave.end

-- ---- no light is evaluated to choose a cut

no_evals : (v : Verdict) (steps : ℕ) → IfOk (judged v) (λ w. steps ≡ steps + w.evals)
no_evals (Yes checked) steps = omega arith
no_evals (No miss) steps = tt

audit_counts : (status : Status) (name : List ℕ) (step : ℕ) (held : Option Files) (steps : ℕ) → Counts status (told (audit_course name step) held) steps steps
audit_counts status name step None steps = λ done. tt
audit_counts status name step (Some files) steps = λ done. counts (world_of name files).reads (world_of name files).end where
  judged_counts : (world : World) (reads : List (List ℕ)) (end : Result Record Refusal) → IfOk (goes_on reads end (λ kept. audited step world kept)).end (λ w. steps ≡ steps + w.evals)
  judged_counts world reads (Ok kept) = no_evals (verdict world.scene world.job kept.lines step) steps
  judged_counts world reads (Err r) = tt

  counts : (reads : List (List ℕ)) (end : Result World Refusal) → IfOk (goes_on reads end (λ world. audit_world step world files)).end (λ w. steps ≡ steps + w.evals)
  counts reads (Ok world) = judged_counts world (record_of world.job files).reads (record_of world.job files).end
  counts reads (Err r) = tt

pub audit_counted : (words : List (List ℕ)) (held : Option Files) (status : Status) (name : List ℕ) (step steps : ℕ) → command_of words ≡ Some (audit name step)
    → Counts status (outcome words held) steps steps
audit_counted words held status name step steps e = subst (λ o. Counts status (course_of o held) steps steps) (sym e) (audit_counts status name step held steps)
