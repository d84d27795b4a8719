-- What a render leaves.
use Rattle.std.proofs.Common.{◌≡◌, ℕ, ◌+◌, ◌*◌, ◌≤◌, ◌⊎◌, List, [], ◌∷◌, ◌++◌, map, refl, sym, ◌∙◌, ap, subst, inl, inr, All, Option, IfSome}
use Rattle.std.proofs.lemmas.List.{map-append}
use Rattle.std.proofs.lemmas.List.Elements.{All-nil, All-cons, All-map}
use Rattle.lc_desk.specs.Calls.{Made, after_calls}
use Rattle.lc_desk.specs.Desk.{DeskState, Files, OnlyReads}
use Rattle.lc_desk.specs.declared.desk.Slot.TheVariants.{Picture, Bounds, Report}
use Rattle.lc_desk.specs.declared.desk.PutStop.TheVariants as put_stop
use Rattle.lc_rated.specs.Cuts.{IsFraction, IsNear}
use Rattle.lc_rated.specs.declared.answer.Answer.{Answer}
use Rattle.lc_view.specs.Samples.{flat, picture_rays}
use Rattle.lc_view.specs.declared.ray.Ray.{Ray}
use Rattle.lc_job.specs.declared.job.Job.{Job}
use Rattle.lc_sample.specs.Sampled.{light_of, sample_of}
use Rattle.lc_frame.specs.Files.{LeftPart, files as frame_files}
use Rattle.lc_frame.specs.Frames.{answers_of, evals_of, picture_text, record_text, render_calls}
use Rattle.lc_frame.specs.Stops.{StoppedIn}
use Rattle.lc_frame.specs.declared.stop.FrameStop.{FrameStop}
use Rattle.lc_frame.specs.declared.stop.FrameStop.TheVariants as frame
use Rattle.lc_tool.specs.declared.status.Status.{Status}
use Rattle.lc_tool.specs.declared.status.Status.TheVariants.{Done, Usage, Stopped, Unwritten}
use Rattle.lc_tool.specs.declared.world.World.{World}
use Rattle.lc_tool.specs.Course.{Course}
use Rattle.lc_tool.specs.Words.{render, command_of}
use Rattle.lc_tool.specs.Work.{Work}
use Rattle.lc_tool.specs.Outcome.{outcome, render_work}
use Rattle.lc_tool.specs.Status.{code}
use Rattle.lc_tool.specs.Noted.{Noted}
use Rattle.lc_tool.specs.Stopped.{Gave}
use Rattle.lc_tool.specs.Ends.{Counts, Ends, Runs, write_line}
use Rattle.lc_tool.specs.Rendered.{AreCounted, AreFractions, AreNear, HasPicture, HasRecord, IsRenderOf, LeavesParts, recorded}
use Rattle.lc_sample.proofs.SampleLemmas.{sample_each, sample_evals, sample_fraction, sample_near}
use Rattle.lc_frame.proofs.WrittenLemmas.{picture_left, picture_part, record_left, record_part}
use Rattle.lc_tool.proofs.Running.{AreOff, by_done, is_done, off_made, off_stopped}
use Rattle.lc_tool.proofs.Framing.{leaves_work, part_between, same_work as framed_work, whole_part}
use Rattle.lc_tool.proofs.Worlds.{IsWorld, world_is}

-- ---- the samples of a world

flat-map : {A B : Type 0} (f : A → B) (lists : List (List A)) → flat (map (map f) lists) ≡ map f (flat lists)
flat-map f [] = refl
flat-map f (list ∷ later) = ap (λ l. map f list ++ l) (flat-map f later) ∙ sym (map-append f list (flat later))

abbrev pub rays_of : World → List Ray
rays_of world = flat (flat (picture_rays world.job.camera))

abbrev pub sample_in : World → Ray → Answer
sample_in world ray = sample_of world.job.cut world.job.permille world.job.rule world.scene ray

pub recorded_are : (world : World) → recorded world ≡ map (sample_in world) (rays_of world)
unfolding answers_of
recorded_are world =
    ap flat (flat-map (map (sample_in world)) (picture_rays world.job.camera)) ∙ flat-map (sample_in world) (flat (picture_rays world.job.camera))

each_of : {X : Type 0} (P : X → Type 0) → ((x : X) → P x) → (xs : List X) → All P xs
each_of P f [] = All-nil P
each_of P f (x ∷ xs) = All-cons P x xs (f x) (each_of P f xs)

pub each_recorded : (P : Answer → Type 0) (world : World) → ((ray : Ray) → P (sample_in world ray)) → All P (recorded world)
each_recorded P world f =
    subst (All P) (sym (recorded_are world)) (All-map P (sample_in world) (rays_of world) (each_of (λ ray. P (sample_in world ray)) f (rays_of world)))

-- ---- the outcome where the words are a render and the files tell its world

same_work : (words : List (List ℕ)) (before start : DeskState) (work : Work) (world : World) → IsRenderOf words before.held world → IfSome (outcome words before.held) (Gave work before start) → work ≡ render_work world
same_work words before start work world r h = framed_work render render_work (λ name held. refl) words before start work world r h

is_render : (words : List (List ℕ)) (status : Status) (before now : DeskState) (world : World) → IsRenderOf words before.held world → Runs (command_of words) status (outcome words before.held) before now → Ends status frame_files (outcome words before.held) before now
is_render words status before now world r h = subst (λ o. Runs o status (outcome words before.held) before now) r.command h

-- ---- where all is done

-- the two files are as all calls of the render leave them
pub record Rendered (world : World) (before now : DeskState) : Type 0 where
  pub picture : now.slots.picture ≡ (after_calls (render_calls world.job (answers_of world.job world.scene)) before.slots).picture
  pub bounds : now.slots.bounds ≡ (after_calls (render_calls world.job (answers_of world.job world.scene)) before.slots).bounds

work_made : (world : World) (work : Work) (start now : DeskState) → work ≡ render_work world → Made work.calls start now → Made (render_calls world.job (answers_of world.job world.scene)) start now
unfolding render_work
work_made world work start now same made = subst (λ (w : Work). Made w.calls start now) same made

pub rendered_picture : (world : World) (before now : DeskState) → Rendered world before now → HasPicture world before now
rendered_picture world before now d = d.picture ∙ picture_left world.job (answers_of world.job world.scene) before.slots

pub rendered_record : (world : World) (before now : DeskState) → Rendered world before now → HasRecord world before now
rendered_record world before now d = d.bounds ∙ record_left world.job (answers_of world.job world.scene) before.slots

render_made : (world : World) (before start now : DeskState) → OnlyReads before start → Made (render_calls world.job (answers_of world.job world.scene)) start now → Rendered world before now
render_made world before start now reads made =
    let slots : now.slots ≡ after_calls (render_calls world.job (answers_of world.job world.scene)) before.slots =
    made.slots ∙ ap (after_calls (render_calls world.job (answers_of world.job world.scene))) reads.slots in
    record { picture = ap (λ s. s.picture) slots; bounds = ap (λ s. s.bounds) slots }

pub render_done : (words : List (List ℕ)) (status : Status) (before now : DeskState) (world : World) → IsRenderOf words before.held world → Runs (command_of words) status (outcome words before.held) before now → code status ≡ 0 → Rendered world before now
render_done words status before now world r h zero =
    let f = by_done (command_of words) status (outcome words before.held) before now h zero in
    render_made world before f.start now f.began.reads (work_made world f.work f.start now (same_work words before f.start f.work world r f.began.told) f.made)

-- ---- the samples of a valid world

pub render_is : (words : List (List ℕ)) (held : Option Files) (world : World) → IsRenderOf words held world → IsWorld world
render_is words held world r = world_is r.name r.files world r.tells

pub world_near : (world : World) → IsWorld world → AreNear world
world_near world valid = each_of (λ ray. IsNear (light_of world.scene ray) (sample_in world ray)) (λ ray. sample_near world.job.cut world.job.permille world.job.rule world.scene ray valid.scene) (rays_of world)

pub world_fractions : (world : World) → IsWorld world → AreFractions world
world_fractions world valid =
    each_recorded (λ a. (a.size ≡ world.job.cut) ⊎ IsFraction world.job.permille a) world (λ ray. sample_fraction world.job.cut world.job.permille world.job.rule world.scene ray valid.job.cut_some)

pub world_counted : (world : World) (steps_before steps_now : ℕ) → IsWorld world → steps_now ≡ steps_before + evals_of (recorded world) → AreCounted world steps_before steps_now
world_counted world steps_before steps_now valid all = record {
  each = each_recorded (λ a. a.evals ≤ 2 * world.job.cut) world (λ ray. sample_evals world.job.cut world.job.permille world.job.rule world.scene ray valid.job.cut_some);
  one = each_recorded (λ a. a.evals ≡ a.size) world (λ ray. sample_each world.job.cut world.job.permille world.job.rule world.scene ray);
  all = all;
}

render_evals : (world : World) (steps_before steps_now : ℕ) → steps_now ≡ steps_before + (render_work world).evals → steps_now ≡ steps_before + evals_of (recorded world)
unfolding render_work
render_evals world steps_before steps_now e = e

pub render_counted : (words : List (List ℕ)) (status : Status) (held : Option Files) (world : World) (steps_before steps_now : ℕ) → IsRenderOf words held world → Counts status (outcome words held) steps_before steps_now → code status ≡ 0 → AreCounted world steps_before steps_now
render_counted words status held world steps_before steps_now r counts zero =
    world_counted world steps_before steps_now (render_is words held world r)
    (render_evals world steps_before steps_now
    (leaves_work render render_work (λ name held. refl) words held world (λ w. steps_now ≡ steps_before + w.evals) r (counts (is_done status zero))))

-- ---- whatever the status

pub off_report : AreOff Report frame_files
off_report =
    All-cons (λ s. s ≡ Report → ⊥) Picture (Bounds ∷ []) (λ e. cc)
    (All-cons (λ s. s ≡ Report → ⊥) Bounds [] (λ e. cc) (All-nil (λ s. s ≡ Report → ⊥)))

picture_stopped : (stop : FrameStop) (job : Job) (rows : List (List (List Answer))) (x y : DeskState) → StoppedIn stop (render_calls job rows) x y → LeftPart job.picture (picture_text job rows) x.slots.picture y.slots.picture
picture_stopped (frame.Write slot) job rows x y h = picture_part job rows put_stop.Failed x y h.0
picture_stopped frame.Memory job rows x y (inl same) = inl (ap (λ d. d.slots.picture) same)
picture_stopped frame.Memory job rows x y (inr broke) = picture_part job rows put_stop.Memory x y broke

record_stopped : (stop : FrameStop) (job : Job) (rows : List (List (List Answer))) (x y : DeskState) → StoppedIn stop (render_calls job rows) x y → LeftPart job.bounds (record_text job rows) x.slots.bounds y.slots.bounds
record_stopped (frame.Write slot) job rows x y h = record_part job rows put_stop.Failed x y h.0
record_stopped frame.Memory job rows x y (inl same) = inl (ap (λ d. d.slots.bounds) same)
record_stopped frame.Memory job rows x y (inr broke) = record_part job rows put_stop.Memory x y broke

-- the files where all calls were made
pub whole_parts : (world : World) (before now : DeskState) → Rendered world before now → LeavesParts world before now
whole_parts world before now d = record {
  picture = whole_part world.job.picture (picture_text world.job (answers_of world.job world.scene)) before.slots.picture now.slots.picture (rendered_picture world before now d);
  bounds = whole_part world.job.bounds (record_text world.job (answers_of world.job world.scene)) before.slots.bounds now.slots.bounds (rendered_record world before now d);
}

-- the files where nothing was written but a line on Note
pub no_parts : (world : World) (before now : DeskState) (line : List ℕ) → Noted line before now → LeavesParts world before now
no_parts world before now line noted = record { picture = inl (ap (λ s. s.picture) noted.slots); bounds = inl (ap (λ s. s.bounds) noted.slots) }

-- the files where a call of the render was refused
pub broken_parts : (world : World) (stop : FrameStop) (before start mid now : DeskState) (line : List ℕ) → OnlyReads before start → StoppedIn stop (render_calls world.job (answers_of world.job world.scene)) start mid → Noted line mid now → LeavesParts world before now
broken_parts world stop before start mid now line reads broke noted =
    let rows : List (List (List Answer)) = answers_of world.job world.scene in
    record {
      picture = part_between world.job.picture (picture_text world.job rows) before.slots.picture start.slots.picture mid.slots.picture now.slots.picture
          (ap (λ s. s.picture) reads.slots) (ap (λ s. s.picture) noted.slots) (picture_stopped stop world.job rows start mid broke);
      bounds = part_between world.job.bounds (record_text world.job rows) before.slots.bounds start.slots.bounds mid.slots.bounds now.slots.bounds
          (ap (λ s. s.bounds) reads.slots) (ap (λ s. s.bounds) noted.slots) (record_stopped stop world.job rows start mid broke);
    }

work_stopped : (stop : FrameStop) (world : World) (work : Work) (x y : DeskState) → work ≡ render_work world → StoppedIn stop work.calls x y → StoppedIn stop (render_calls world.job (answers_of world.job world.scene)) x y
unfolding render_work
work_stopped stop world work x y same h = subst (λ (w : Work). StoppedIn stop w.calls x y) same h

ends_parts : (words : List (List ℕ)) (status : Status) (before now : DeskState) (world : World) → IsRenderOf words before.held world → Ends status frame_files (outcome words before.held) before now → LeavesParts world before now
ends_parts words Done before now world r h =
    whole_parts world before now (render_made world before h.start now h.began.reads (work_made world h.work h.start now (same_work words before h.start h.work world r h.began.told) h.made))
ends_parts words Usage before now world r h = absurd h
ends_parts words (Stopped stop) before now world r h = no_parts world before now h.line h.noted
ends_parts words (Unwritten stop) before now world r h =
    broken_parts world stop before h.start h.mid now (write_line stop) h.began.reads
    (work_stopped stop world h.work h.start h.mid (same_work words before h.start h.work world r h.began.told) h.broke) h.noted

pub render_parts : (words : List (List ℕ)) (status : Status) (before now : DeskState) (world : World) → IsRenderOf words before.held world → Runs (command_of words) status (outcome words before.held) before now → LeavesParts world before now
render_parts words status before now world r h = ends_parts words status before now world r (is_render words status before now world r h)

-- Report is as it was
ends_report : (status : Status) (course : Option (Course Work)) (before now : DeskState) → Ends status frame_files course before now → now.slots.report ≡ before.slots.report
ends_report Done course before now h = off_made Report frame_files h.work.calls h.start now off_report h.began.on h.made ∙ ap (λ s. s.report) h.began.reads.slots
ends_report Usage course before now h = absurd h
ends_report (Stopped stop) course before now h = ap (λ s. s.report) h.noted.slots
ends_report (Unwritten stop) course before now h =
    ap (λ s. s.report) h.noted.slots ∙ off_stopped stop Report frame_files h.work.calls h.start h.mid off_report h.began.on h.broke ∙ ap (λ s. s.report) h.began.reads.slots

pub run_report : (words : List (List ℕ)) (status : Status) (before now : DeskState) (world : World) → IsRenderOf words before.held world → Runs (command_of words) status (outcome words before.held) before now → now.slots.report ≡ before.slots.report
run_report words status before now world r h = ends_report status (outcome words before.held) before now (is_render words status before now world r h)
