-- What `render`, `make` and `plain` have left where they are done, and what they may have left where they are not.
use Rattle.std.specs.Prelude.{◌≡◌, ◌+◌, ◌*◌, ◌≤◌, ◌⊎◌, ℕ, List, All, Option, Some, None, IfSome, Ok}
use Rattle.lc_desk.specs.Desk.{DeskState, Files, TookPart, appended, opened}
use Rattle.lc_rated.specs.declared.answer.Answer.{Answer}
use Rattle.lc_rated.specs.Cuts.{IsNear, IsFraction}
use Rattle.lc_view.specs.Samples.{flat, picture_rays}
use Rattle.lc_sample.specs.Sampled.{light_of, sample_of}
use Rattle.lc_frame.specs.Files.{LeftPart}
use Rattle.lc_frame.specs.Frames.{answers_of, evals_of, picture_text, record_text, samples}
use Rattle.lc_frame.specs.PlainFrames.{plain_lights, plain_picture}
use Rattle.lc_tool.specs.declared.world.World.{World}
use Rattle.lc_make.specs.Made.{made_of}
use Rattle.lc_tool.specs.Outcome.{made_world, world_of}
use Rattle.lc_tool.specs.Summaries.{summary_line}
use Rattle.lc_tool.specs.Words.{Command, probe, render, plain, audit, make, command_of}

-- the words are a command on a job, and by the files that the desk tells this is the world of that job
pub record IsOf (asks : List ℕ → Command) (words : List (List ℕ)) (held : Option Files) (world : World) : Type 0 where
  pub name : List ℕ
  pub command : command_of words ≡ Some (asks name)
  pub files : Files
  pub told : held ≡ Some files
  pub tells : (world_of name files).end ≡ Ok world

-- the words are `render`
abbrev pub IsRenderOf : List (List ℕ) → Option Files → World → Type 0
IsRenderOf words held world = IsOf render words held world

-- the words are `plain`
abbrev pub IsPlainOf : List (List ℕ) → Option Files → World → Type 0
IsPlainOf words held world = IsOf plain words held world

-- the words are `make`, and this is the world of the texts that are made of its number
pub record IsMakeOf (words : List (List ℕ)) (world : World) : Type 0 where
  pub number : ℕ
  pub command : command_of words ≡ Some (make number)
  pub tells : (made_world (made_of number)).end ≡ Ok world

-- the words are `render` or `make`, and this is the world whose picture and record they ask for
abbrev pub Renders : List (List ℕ) → Option Files → World → Type 0
Renders words held world = IsRenderOf words held world ⊎ IsMakeOf words world

-- files tell the world of this job
abbrev pub TellsWorld : List ℕ → Files → Type 0
TellsWorld name files = (world : World) × ((world_of name files).end ≡ Ok world)

-- files tell the world of this job, and hold a file under the name of its record
abbrev pub TellsRecord : List ℕ → Files → Type 0
TellsRecord name files =
    (world : World) × (text : List ℕ) × ((world_of name files).end ≡ Ok world) × (files world.job.bounds ≡ Some text)

-- where the words are a command on a job and the desk tells its files, these tell the world of the job, and for `audit`
-- its record; and the texts that `make` makes tell a world
abbrev pub HasWorld : Option Command → Option Files → Type 0
HasWorld None held = Unit {0}
HasWorld (Some (probe name place direction)) held = Unit {0}
HasWorld (Some (render name)) held = IfSome held (TellsWorld name)
HasWorld (Some (plain name)) held = IfSome held (TellsWorld name)
HasWorld (Some (audit name step)) held = IfSome held (TellsRecord name)
HasWorld (Some (make number)) held = (world : World) × ((made_world (made_of number)).end ≡ Ok world)

-- the answers that are recorded: one for each sample of the picture
abbrev pub recorded : World → List Answer
recorded world = samples (answers_of world.job world.scene)

-- at each sample the recorded estimate differs from the sum over all lights, each with its own visibility against every
-- triangle, by at most the recorded bound
abbrev pub AreNear : World → Type 0
AreNear world =
    All (λ ray. IsNear (light_of world.scene ray)
    (sample_of world.job.cut world.job.permille world.job.rule world.scene ray))
    (flat (flat (picture_rays world.job.camera)))

-- at each sample the recorded bound is within the permille of the estimate, unless the cut has the greatest size
abbrev pub AreFractions : World → Type 0
AreFractions world = All (λ a. (a.size ≡ world.job.cut) ⊎ IsFraction world.job.permille a) (recorded world)

-- each sample took an evaluation for each of its clusters, so at most twice the greatest size, and the counter rose by
-- the sum of all of them
pub record AreCounted (world : World) (steps_before steps_now : ℕ) : Type 0 where
  pub each : All (λ a. a.evals ≤ 2 * world.job.cut) (recorded world)
  pub one : All (λ a. a.evals ≡ a.size) (recorded world)
  pub all : steps_now ≡ steps_before + evals_of (recorded world)

-- the record's file has exactly the record of the answers, under the job's name
abbrev pub HasRecord : World → DeskState → DeskState → Type 0
HasRecord world before now =
    now.slots.bounds ≡ appended (record_text world.job (answers_of world.job world.scene))
    (opened world.job.bounds before.slots.bounds)

-- the picture's file has exactly the picture of the answers' estimates, under the job's name
abbrev pub HasPicture : World → DeskState → DeskState → Type 0
HasPicture world before now =
    now.slots.picture ≡ appended (picture_text world.job (answers_of world.job world.scene))
    (opened world.job.picture before.slots.picture)

-- each file is as it was, or was begun under the job's name and has a first part of those bytes
pub record LeavesParts (world : World) (before now : DeskState) : Type 0 where
  pub picture : LeftPart world.job.picture
      (picture_text world.job (answers_of world.job world.scene)) before.slots.picture now.slots.picture
  pub bounds : LeftPart world.job.bounds
      (record_text world.job (answers_of world.job world.scene)) before.slots.bounds now.slots.bounds

-- ---- make

-- Report has the line of the answers more
abbrev pub HasSummary : ℕ → World → DeskState → DeskState → Type 0
HasSummary number world before now =
    now.slots.report ≡ appended (summary_line number (recorded world)) before.slots.report

-- Report has a first part of that line more
abbrev pub LeavesSummary : ℕ → World → DeskState → DeskState → Type 0
LeavesSummary number world before now =
    TookPart (summary_line number (recorded world)) before.slots.report now.slots.report

-- ---- plain

-- the picture's file has exactly the picture of the sums over all lights, each with its own visibility against every
-- triangle, under the job's name
abbrev pub HasPlainPicture : World → DeskState → DeskState → Type 0
HasPlainPicture world before now =
    now.slots.picture ≡ appended (plain_picture world.job (plain_lights world.job world.scene))
    (opened world.job.picture before.slots.picture)

-- the picture's file is as it was, or was begun under the job's name and has a first part of those bytes; the record's
-- file and Report are as they were
pub record LeavesPlainPart (world : World) (before now : DeskState) : Type 0 where
  pub picture : LeftPart world.job.picture
      (plain_picture world.job (plain_lights world.job world.scene)) before.slots.picture now.slots.picture
  pub bounds : now.slots.bounds ≡ before.slots.bounds
  pub report : now.slots.report ≡ before.slots.report
