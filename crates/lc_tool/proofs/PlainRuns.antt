-- What `plain` leaves.
use Rattle.std.proofs.Common.{◌≡◌, ℕ, ◌+◌, List, [], refl, sym, ◌∙◌, ap, subst, arith, inl, inr, Option, Some, None, IfSome, IfOk, Ok, Err, Result}
use Rattle.std.proofs.lemmas.List.Elements.{All-nil, All-cons}
use Rattle.lc_num.specs.declared.channels.Rgb.{Rgb}
use Rattle.lc_desk.specs.Calls.{Made, after_calls}
use Rattle.lc_desk.specs.Desk.{DeskState, Files}
use Rattle.lc_desk.specs.declared.desk.Slot.TheVariants.{Picture, Bounds, Report}
use Rattle.lc_desk.specs.declared.desk.PutStop.TheVariants as put_stop
use Rattle.lc_job.specs.declared.job.Job.{Job}
use Rattle.lc_frame.specs.Files.{LeftPart, picture_file}
use Rattle.lc_frame.specs.PlainFrames.{plain_calls, plain_lights, plain_picture}
use Rattle.lc_frame.specs.Stops.{StoppedIn}
use Rattle.lc_frame.specs.declared.stop.FrameStop.{FrameStop}
use Rattle.lc_frame.specs.declared.stop.FrameStop.TheVariants as frame
use Rattle.lc_tool.specs.declared.status.Status.{Status}
use Rattle.lc_tool.specs.declared.status.Status.TheVariants.{Done, Usage, Stopped, Unwritten}
use Rattle.lc_tool.specs.declared.world.World.{World}
use Rattle.lc_tool.specs.Course.{Refusal, at_once, goes_on, told}
use Rattle.lc_tool.specs.Words.{plain, command_of}
use Rattle.lc_tool.specs.Work.{Work}
use Rattle.lc_tool.specs.Outcome.{course_of, outcome, plain_course, plain_work, world_of}
use Rattle.lc_tool.specs.Status.{code}
use Rattle.lc_tool.specs.Stopped.{Gave}
use Rattle.lc_tool.specs.Ends.{Counts, Ends, Runs}
use Rattle.lc_tool.specs.Rendered.{HasPlainPicture, IsPlainOf, LeavesPlainPart}
use Rattle.lc_frame.proofs.PlainFileLemmas.{picture_left as plain_left, picture_part as plain_part}
use Rattle.lc_tool.proofs.Framing.{part_between, same_work as framed_work, whole_part}
use Rattle.lc_tool.proofs.Running.{AreOff, by_done, off_made, off_stopped}

same_work : (words : List (List ℕ)) (before start : DeskState) (work : Work) (world : World) → IsPlainOf words before.held world → IfSome (outcome words before.held) (Gave work before start) → work ≡ plain_work world
same_work words before start work world r h = framed_work plain plain_work (λ name held. refl) words before start work world r h

is_plain : (words : List (List ℕ)) (status : Status) (before now : DeskState) (world : World) → IsPlainOf words before.held world → Runs (command_of words) status (outcome words before.held) before now → Ends status picture_file (outcome words before.held) before now
is_plain words status before now world r h = subst (λ o. Runs o status (outcome words before.held) before now) r.command h

-- ---- where all is done

work_made : (world : World) (work : Work) (start now : DeskState) → work ≡ plain_work world → Made work.calls start now → Made (plain_calls world.job (plain_lights world.job world.scene)) start now
unfolding plain_work
work_made world work start now same made = subst (λ (w : Work). Made w.calls start now) same made

has_picture : (world : World) (before start now : DeskState) → start.slots ≡ before.slots → Made (plain_calls world.job (plain_lights world.job world.scene)) start now → HasPlainPicture world before now
has_picture world before start now same made =
    ap (λ s. s.picture) (made.slots ∙ ap (after_calls (plain_calls world.job (plain_lights world.job world.scene))) same)
    ∙ plain_left world.job (plain_lights world.job world.scene) before.slots

pub run_plain : (words : List (List ℕ)) (status : Status) (before now : DeskState) (world : World) → IsPlainOf words before.held world → Runs (command_of words) status (outcome words before.held) before now → code status ≡ 0 → HasPlainPicture world before now
run_plain words status before now world r h zero =
    let f = by_done (command_of words) status (outcome words before.held) before now h zero in
    has_picture world before f.start now f.began.reads.slots (work_made world f.work f.start now (same_work words before f.start f.work world r f.began.told) f.made)

-- ---- no light is evaluated to choose a cut

no_evals : (reads : List (List ℕ)) (end : Result World Refusal) (steps : ℕ) → IfOk (goes_on reads end (λ world. at_once (Ok (plain_work world)))).end (λ w. steps ≡ steps + w.evals)
unfolding plain_work
no_evals reads (Ok world) steps = omega arith
no_evals reads (Err r) steps = tt

plain_counts : (status : Status) (name : List ℕ) (held : Option Files) (steps : ℕ) → Counts status (told (plain_course name) held) steps steps
plain_counts status name None steps = λ done. tt
plain_counts status name (Some files) steps = λ done. no_evals (world_of name files).reads (world_of name files).end steps

pub plain_counted : (words : List (List ℕ)) (held : Option Files) (status : Status) (name : List ℕ) (steps : ℕ) → command_of words ≡ Some (plain name) → Counts status (outcome words held) steps steps
plain_counted words held status name steps e = subst (λ o. Counts status (course_of o held) steps steps) (sym e) (plain_counts status name held steps)

-- ---- whatever the status

off_bounds : AreOff Bounds picture_file
off_bounds = All-cons (λ s. s ≡ Bounds → ⊥) Picture [] (λ e. cc) (All-nil (λ s. s ≡ Bounds → ⊥))

off_report : AreOff Report picture_file
off_report = All-cons (λ s. s ≡ Report → ⊥) Picture [] (λ e. cc) (All-nil (λ s. s ≡ Report → ⊥))

picture_stopped : (stop : FrameStop) (job : Job) (rows : List (List (List Rgb))) (x y : DeskState) → StoppedIn stop (plain_calls job rows) x y → LeftPart job.picture (plain_picture job rows) x.slots.picture y.slots.picture
picture_stopped (frame.Write slot) job rows x y h = plain_part job rows put_stop.Failed x y h.0
picture_stopped frame.Memory job rows x y (inl same) = inl (ap (λ d. d.slots.picture) same)
picture_stopped frame.Memory job rows x y (inr broke) = plain_part job rows put_stop.Memory x y broke

work_stopped : (stop : FrameStop) (world : World) (work : Work) (x y : DeskState) → work ≡ plain_work world → StoppedIn stop work.calls x y → StoppedIn stop (plain_calls world.job (plain_lights world.job world.scene)) x y
unfolding plain_work
work_stopped stop world work x y same h = subst (λ (w : Work). StoppedIn stop w.calls x y) same h

ends_part : (words : List (List ℕ)) (status : Status) (before now : DeskState) (world : World) → IsPlainOf words before.held world → Ends status picture_file (outcome words before.held) before now → LeavesPlainPart world before now
ends_part words Done before now world r h =
    let made = work_made world h.work h.start now (same_work words before h.start h.work world r h.began.told) h.made in
    record {
      picture = whole_part world.job.picture (plain_picture world.job (plain_lights world.job world.scene)) before.slots.picture now.slots.picture (has_picture world before h.start now h.began.reads.slots made);
      bounds = off_made Bounds picture_file h.work.calls h.start now off_bounds h.began.on h.made ∙ ap (λ s. s.bounds) h.began.reads.slots;
      report = off_made Report picture_file h.work.calls h.start now off_report h.began.on h.made ∙ ap (λ s. s.report) h.began.reads.slots;
    }
ends_part words Usage before now world r h = absurd h
ends_part words (Stopped stop) before now world r h = record {
  picture = inl (ap (λ s. s.picture) h.noted.slots);
  bounds = ap (λ s. s.bounds) h.noted.slots;
  report = ap (λ s. s.report) h.noted.slots;
}
ends_part words (Unwritten stop) before now world r h =
    let rows : List (List (List Rgb)) = plain_lights world.job world.scene in
    let broke : StoppedIn stop (plain_calls world.job rows) h.start h.mid = work_stopped stop world h.work h.start h.mid (same_work words before h.start h.work world r h.began.told) h.broke in
    record {
      picture = part_between world.job.picture (plain_picture world.job rows) before.slots.picture h.start.slots.picture h.mid.slots.picture now.slots.picture
          (ap (λ s. s.picture) h.began.reads.slots) (ap (λ s. s.picture) h.noted.slots) (picture_stopped stop world.job rows h.start h.mid broke);
      bounds = ap (λ s. s.bounds) h.noted.slots ∙ off_stopped stop Bounds picture_file h.work.calls h.start h.mid off_bounds h.began.on h.broke ∙ ap (λ s. s.bounds) h.began.reads.slots;
      report = ap (λ s. s.report) h.noted.slots ∙ off_stopped stop Report picture_file h.work.calls h.start h.mid off_report h.began.on h.broke ∙ ap (λ s. s.report) h.began.reads.slots;
    }

pub run_plain_part : (words : List (List ℕ)) (status : Status) (before now : DeskState) (world : World) → IsPlainOf words before.held world → Runs (command_of words) status (outcome words before.held) before now → LeavesPlainPart world before now
run_plain_part words status before now world r h = ends_part words status before now world r (is_plain words status before now world r h)
