-- What `render` and `make` have in common.
use Rattle.std.proofs.Common.{◌≡◌, ℕ, List, inl, inr, Option, Some, None, IfSome, Ok}
use Rattle.lc_desk.specs.Desk.{DeskState, Files}
use Rattle.lc_make.specs.Made.{made_of}
use Rattle.lc_tool.specs.declared.status.Status.{Status}
use Rattle.lc_tool.specs.declared.world.World.{World}
use Rattle.lc_tool.specs.Course.{at_once, told}
use Rattle.lc_tool.specs.Ends.{Counts, Runs}
use Rattle.lc_tool.specs.Outcome.{course_of, frame_course, made_world, make_work, outcome, plain_work, render_work}
use Rattle.lc_tool.specs.Rendered.{AreCounted, AreFractions, AreNear, HasPicture, HasRecord, HasWorld, LeavesParts, Renders, TellsWorld}
use Rattle.lc_tool.specs.Status.{code}
use Rattle.lc_tool.specs.Stopped.{Gave}
use Rattle.lc_tool.specs.Words.{Command, probe, render, plain, audit, make, command_of}
use Rattle.lc_tool.specs.Work.{Work}
use Rattle.lc_tool.proofs.Auditing.{given_record}
use Rattle.lc_tool.proofs.Framing.{tells_world}
use Rattle.lc_tool.proofs.Making.{make_counted, make_done, make_parts}
use Rattle.lc_tool.proofs.Rendering.{Rendered, render_counted, render_done, render_is, render_parts, rendered_picture, rendered_record, world_fractions, world_near}
use Rattle.lc_tool.proofs.Running.{by_done, some_as}
use Rattle.lc_tool.proofs.Through.{told_files, went_through}
use Rattle.lc_tool.proofs.Worlds.{IsWorld, made_world_is}

-- the world is valid
renders_is : (words : List (List ℕ)) (held : Option Files) (world : World) → Renders words held world → IsWorld world
renders_is words held world (inl r) = render_is words held world r
renders_is words held world (inr m) = made_world_is (made_of m.number) world m.tells

pub run_near : (words : List (List ℕ)) (held : Option Files) (world : World) → Renders words held world → AreNear world
run_near words held world r = world_near world (renders_is words held world r)

pub run_fractions : (words : List (List ℕ)) (held : Option Files) (world : World) → Renders words held world → AreFractions world
run_fractions words held world r = world_fractions world (renders_is words held world r)

pub run_counted : (words : List (List ℕ)) (status : Status) (held : Option Files) (world : World) (steps_before steps_now : ℕ) → Renders words held world → Counts status (outcome words held) steps_before steps_now → code status ≡ 0 → AreCounted world steps_before steps_now
run_counted words status held world steps_before steps_now (inl r) counts zero = render_counted words status held world steps_before steps_now r counts zero
run_counted words status held world steps_before steps_now (inr m) counts zero =
    make_counted words status held world steps_before steps_now m (made_world_is (made_of m.number) world m.tells) counts zero

run_done : (words : List (List ℕ)) (status : Status) (before now : DeskState) (world : World) → Renders words before.held world → Runs (command_of words) status (outcome words before.held) before now → code status ≡ 0 → Rendered world before now
run_done words status before now world (inl r) h zero = render_done words status before now world r h zero
run_done words status before now world (inr m) h zero = make_done words status before now world m h zero

pub run_picture : (words : List (List ℕ)) (status : Status) (before now : DeskState) (world : World) → Renders words before.held world → Runs (command_of words) status (outcome words before.held) before now → code status ≡ 0 → HasPicture world before now
run_picture words status before now world r h zero = rendered_picture world before now (run_done words status before now world r h zero)

pub run_record : (words : List (List ℕ)) (status : Status) (before now : DeskState) (world : World) → Renders words before.held world → Runs (command_of words) status (outcome words before.held) before now → code status ≡ 0 → HasRecord world before now
run_record words status before now world r h zero = rendered_record world before now (run_done words status before now world r h zero)

pub run_parts : (words : List (List ℕ)) (status : Status) (before now : DeskState) (world : World) → Renders words before.held world → Runs (command_of words) status (outcome words before.held) before now → LeavesParts world before now
run_parts words status before now world (inl r) h = render_parts words status before now world r h
run_parts words status before now world (inr m) h = make_parts words status before now world m h

-- ---- files or made texts tell a world

frame_world : (work : World → Work) (name : List ℕ) (held : Option Files) (w : Work) (before start : DeskState) → IfSome (told (frame_course work name) held) (Gave w before start) → IfSome held (TellsWorld name)
frame_world work name held w before start gave =
    some_as held (λ files. Gave w before start (frame_course work name files)) (TellsWorld name) (λ files g. tells_world work name files w g.end) (told_files (frame_course work name) held (Gave w before start) gave)

given_world : (command : Option Command) (held : Option Files) (w : Work) (before start : DeskState) → IfSome (course_of command held) (Gave w before start) → HasWorld command held
given_world None held w before start gave = tt
given_world (Some (probe name place direction)) held w before start gave = tt
given_world (Some (render name)) held w before start gave = frame_world render_work name held w before start gave
given_world (Some (plain name)) held w before start gave = frame_world plain_work name held w before start gave
given_world (Some (audit name step)) held w before start gave = given_record name step held w before start gave
given_world (Some (make number)) held w before start gave =
    let t = went_through (made_world (made_of number)) (λ world. at_once (Ok (make_work number world))) w gave.end in
    (t.value, t.stepped)

pub run_world : (command : Option Command) (status : Status) (before now : DeskState) → Runs command status (course_of command before.held) before now → code status ≡ 0 → HasWorld command before.held
run_world command status before now h zero =
    let f = by_done command status (course_of command before.held) before now h zero in
    given_world command before.held f.work before f.start f.began.told
