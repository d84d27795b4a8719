-- What `probe` has recorded where it is done.
use Rattle.std.specs.Prelude.{◌≡◌, ◌+◌, ◌*◌, ◌≤◌, ◌⊎◌, ℕ, List, Option, Some, None, IfSome}
use Rattle.lc_num.specs.declared.vectors.Vec3.{Vec3}
use Rattle.lc_desk.specs.Desk.{DeskState, Files, appended}
use Rattle.lc_light.specs.LightFile.{fault_in, lights}
use Rattle.lc_cut.specs.Contribution.{plain}
use Rattle.lc_rated.specs.declared.answer.Answer.{Answer}
use Rattle.lc_rated.specs.Cuts.{IsNear, IsFraction}
use Rattle.lc_record.specs.Record.{line_bytes}
use Rattle.lc_tool.specs.Outcome.{probe_spot, probe_scene, probe_size, probe_permille, probe_answer}
use Rattle.lc_tool.specs.Words.{Command, probe, render, plain as plain_words, audit, make, command_of}

-- Report has gained one line, and each other slot is as it was. The line is the answer of the chosen cut. Its estimate
-- differs from the sum over all lights of the file by at most its bound, and its bound is within the permille of the
-- estimate unless the cut has the greatest size. The counter rose by the evaluations, at most twice that size
pub record ProbeRecorded (name : List ℕ) (place direction : Vec3) (files : Files) (before now : DeskState)
    (steps_before steps_now : ℕ) : Type 0 where
  pub text : List ℕ
  pub read : files name ≡ Some text
  pub right : fault_in text ≡ None
  pub answer : Answer
  pub recorded : now.slots ≡ record before.slots { report = appended (line_bytes answer) before.slots.report }
  pub cut : answer ≡ probe_answer place direction (lights text 0)
  pub near : IsNear (plain probe_scene (probe_spot place direction) (lights text 0)) answer
  pub fraction : (answer.size ≡ probe_size) ⊎ IsFraction probe_permille answer
  pub size : answer.size ≤ probe_size
  pub evals : answer.evals ≤ 2 * probe_size
  pub each : answer.evals ≡ answer.size
  pub counted : steps_now ≡ steps_before + answer.evals

abbrev pub Recorded : Option Command → Files → DeskState → DeskState → ℕ → ℕ → Type 0
Recorded None files before now steps_before steps_now = Unit {0}
Recorded (Some (probe name place direction)) files before now steps_before steps_now =
    ProbeRecorded name place direction files before now steps_before steps_now
Recorded (Some (render name)) files before now steps_before steps_now = Unit {0}
Recorded (Some (plain_words name)) files before now steps_before steps_now = Unit {0}
Recorded (Some (audit name step)) files before now steps_before steps_now = Unit {0}
Recorded (Some (make number)) files before now steps_before steps_now = Unit {0}

-- over a desk that tells its files, the command has left its record
abbrev pub Records : List (List ℕ) → DeskState → DeskState → ℕ → ℕ → Type 0
Records words before now steps_before steps_now =
    IfSome before.held (λ files. Recorded (command_of words) files before now steps_before steps_now)
