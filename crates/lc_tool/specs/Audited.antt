-- What `audit` has checked where it is done, and which records it says yes to.
use Rattle.std.specs.Prelude.{◌≡◌, ℕ, ◌%◌, ◌≤◌, List, All, length, Option, Some, Ok}
use Rattle.lc_desk.specs.Causes.{Rose}
use Rattle.lc_desk.specs.Desk.{DeskState, Files, appended}
use Rattle.lc_frame.specs.Frames.{answers_of, header_of, record_text}
use Rattle.lc_record.specs.Reading.{IsTextOf}
use Rattle.lc_record.specs.Record.{IsSample}
use Rattle.lc_record.specs.declared.reader.Record.{Record}
use Rattle.lc_view.specs.Samples.{sample_count}
use Rattle.lc_job.specs.declared.job.Job.{Job}
use Rattle.lc_rated.specs.declared.answer.Answer.{Answer}
use Rattle.lc_audit.specs.Verdicts.{LineFails, LineHolds, looked_at, verdict}
use Rattle.lc_audit.specs.declared.verdict.Miss.{Miss}
use Rattle.lc_audit.specs.declared.verdict.Verdict.TheVariants.{No}
use Rattle.lc_tool.specs.declared.world.World.{World}
use Rattle.lc_tool.specs.Lines.{record_limit}
use Rattle.lc_tool.specs.Outcome.{world_of, yes_line}
use Rattle.lc_tool.specs.Words.{audit, command_of}

-- some bytes are the text of this record
abbrev pub IsRecord : Record → Type 0
IsRecord kept = (text : List ℕ) × IsTextOf kept.header kept.lines text

-- a line for each sample of a job's picture, within the ranges of its cut
pub record AreLinesFor (job : Job) (lines : List Answer) : Type 0 where
  pub count : length lines ≡ sample_count job.camera
  pub valid : All (IsSample job.cut) lines

-- the words are `audit`, by the files that the desk tells this is the world of that job, and these are the bytes of its
-- record's file
pub record IsAuditOf (words : List (List ℕ)) (held : Option Files) (world : World) (text : List ℕ) : Type 0 where
  pub name : List ℕ
  pub step : ℕ
  pub command : command_of words ≡ Some (audit name step)
  pub files : Files
  pub told : held ≡ Some files
  pub tells : (world_of name files).end ≡ Ok world
  pub kept : files world.job.bounds ≡ Some text

-- The bytes are the text of a record with the header of the job and these lines. Each of them whose number the step
-- divides holds: its estimate is within its bound of the sum over all lights, each with its own visibility against
-- every triangle, and its bound is within the job's permille of the estimate unless its size is the job's greatest.
-- Report has gained the number of these lines.
pub record AuditHolds (step : ℕ) (world : World) (text : List ℕ) (before now : DeskState) : Type 0 where
  pub lines : List Answer
  pub whole : IsTextOf (header_of world.job) lines text
  pub hold : (k : ℕ) → k % step ≡ 0 → LineHolds world.scene world.job lines k
  pub told : now.slots.report
      ≡ appended (yes_line (length (looked_at world.scene world.job lines step))) before.slots.report

-- The bytes are the text of a record with the header of the job and these lines, and one of those whose number the step
-- divides does not hold: the one that the definition of the verdict names.
pub record AuditFails (step : ℕ) (world : World) (text : List ℕ) : Type 0 where
  pub lines : List Answer
  pub whole : IsTextOf (header_of world.job) lines text
  pub miss : Miss
  pub first : verdict world.scene world.job lines step ≡ No miss
  pub fails : LineFails world.scene world.job lines miss.sample

-- the bytes are those of the record that a render of this world writes, and are not too many to be read
pub record IsOwnRecord (world : World) (text : List ℕ) : Type 0 where
  pub same : text ≡ record_text world.job (answers_of world.job world.scene)
  pub short : length text ≤ record_limit

-- no fault of a read and none of Report was counted
pub record HasNoAuditFault (before now : DeskState) : Type 0 where
  pub reads : ¬ Rose before.faults.reads now.faults.reads
  pub report : ¬ Rose before.faults.puts.report now.faults.puts.report

-- the two files are as they were
pub record KeepsFiles (before now : DeskState) : Type 0 where
  pub picture : now.slots.picture ≡ before.slots.picture
  pub bounds : now.slots.bounds ≡ before.slots.bounds
