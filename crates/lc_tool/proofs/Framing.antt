-- Commands on the world of a job: what is said of the outcome is said of their work on that world.
use Rattle.std.proofs.Common.{◌≡◌, ℕ, List, length, sym, ◌∙◌, ap, subst, inr, Option, Some, IfSome, IfOk, Ok}
use Rattle.std.proofs.Math.Seq.{take-length}
use Rattle.lc_desk.specs.Desk.{DeskState, SlotState, Files, appended, opened}
use Rattle.lc_frame.specs.Files.{LeftPart}
use Rattle.lc_tool.specs.declared.world.World.{World}
use Rattle.lc_tool.specs.Course.{at_once, goes_on, told}
use Rattle.lc_tool.specs.Words.{Command}
use Rattle.lc_tool.specs.Work.{Work}
use Rattle.lc_tool.specs.Outcome.{course_of, frame_course, outcome, world_of}
use Rattle.lc_tool.specs.Stopped.{Gave}
use Rattle.lc_tool.specs.Rendered.{IsOf}
use Rattle.lc_tool.proofs.Running.{some_here}
use Rattle.lc_tool.proofs.Through.{went_through, if_ok, ok_same}

module _ (command : List ℕ → Command) (work : World → Work) (goes : (name : List ℕ) (held : Option Files) → course_of (Some (command name)) held ≡ told (frame_course work name) held) where
  pub leaves_course : (words : List (List ℕ)) (held : Option Files) (world : World) (r : IsOf command words held world) → outcome words held ≡ Some (frame_course work r.name r.files)
  leaves_course words held world r =
      ap (λ o. course_of o held) r.command ∙ ap (course_of (Some (command r.name))) r.told ∙ goes r.name (Some r.files)

  world_end : (name : List ℕ) (files : Files) (world : World) → (world_of name files).end ≡ Ok world → (frame_course work name files).end ≡ Ok (work world)
  world_end name files world e = ap (λ end. (goes_on (world_of name files).reads end (λ w. at_once (Ok (work w)))).end) e

  -- what is said of the outcome is said of the course to this work
  pub leaves_work : (words : List (List ℕ)) (held : Option Files) (world : World) (P : Work → Type 0) → IsOf command words held world → IfSome (outcome words held) (λ c. IfOk c.end P) → P (work world)
  leaves_work words held world P r h =
      if_ok (frame_course work r.name r.files).end (work world) P (world_end r.name r.files world r.tells)
      (some_here (outcome words held) (λ c. IfOk c.end P) (frame_course work r.name r.files) (leaves_course words held world r) h)

  pub same_work : (words : List (List ℕ)) (before start : DeskState) (w : Work) (world : World) → IsOf command words before.held world → IfSome (outcome words before.held) (Gave w before start) → w ≡ work world
  same_work words before start w world r h =
      let gave = some_here (outcome words before.held) (Gave w before start) (frame_course work r.name r.files) (leaves_course words before.held world r) h in
      ok_same w (work world) (sym gave.end ∙ world_end r.name r.files world r.tells)

-- where the course of such a command gives a work, the files tell a world
pub tells_world : (work : World → Work) (name : List ℕ) (files : Files) (w : Work) → (frame_course work name files).end ≡ Ok w → (world : World) × ((world_of name files).end ≡ Ok world)
tells_world work name files w e =
    let t = went_through (world_of name files) (λ world. at_once (Ok (work world))) w e in
    (t.value, t.stepped)

-- ---- parts of files

-- the whole is a first part
pub whole_part : (name bytes : List ℕ) (before now : SlotState) → now ≡ appended bytes (opened name before) → LeftPart name bytes before now
whole_part name bytes before now e = inr (record { count = length bytes; held = e ∙ ap (λ b. appended b (opened name before)) (sym (take-length bytes)) })

-- a part that was left between two slots is left between what these are
pub part_between : (name bytes : List ℕ) (before x y now : SlotState) → x ≡ before → now ≡ y → LeftPart name bytes x y → LeftPart name bytes before now
part_between name bytes before x y now e f h = subst (λ s. LeftPart name bytes s now) e (subst (λ s. LeftPart name bytes x s) (sym f) h)
