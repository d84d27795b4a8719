-- The job of a text, and the first thing that is wrong with it.
use Rattle.std.specs.Prelude.{ℕ, Bool, not, List, [], ◌∷◌, filter, find, Option, None, option_map}
use Rattle.std.specs.List.{last_or, list_any}
use Rattle.std.specs.Str.{bytes_eq}
use Rattle.lc_num.specs.Faults.{Fault}
use Rattle.lc_scan.specs.Fields.{keyword_in, rest, values_in}
use Rattle.lc_scan.specs.Lines.{Line}
use Rattle.lc_scan.specs.LineTests.{first_kind}
use Rattle.lc_scan.specs.Spoken.{spoken}
use Rattle.lc_scan.specs.Faults as faults
use Rattle.lc_job.specs.Drafts.{made}
use Rattle.lc_job.specs.JobLine.{amount, kind_of, rule, size, vector, whole_at}
use Rattle.lc_job.specs.Jobs.{job_tests}
use Rattle.lc_job.specs.Keys.{required, word}
use Rattle.lc_job.specs.FaultKinds.{kind_number}
use Rattle.lc_job.specs.declared.draft.Draft.{Draft}
use Rattle.lc_job.specs.declared.job.Job.{Job}
use Rattle.lc_job.specs.declared.key.Key.{Key}
use Rattle.lc_job.specs.declared.key.Key.TheVariants as key
use Rattle.lc_job.specs.declared.fault_kind.FaultKind.{FaultKind}
use Rattle.lc_job.specs.declared.stop.JobStop.{JobStop}
use Rattle.lc_job.specs.declared.stop.JobStop.TheVariants as stop

-- ---- lines by their keywords

abbrev pub is_of : Key → Line → Bool
is_of k l = bytes_eq (keyword_in l.bytes) (word k)

abbrev pub stood : List Line → Key → Bool
stood ls k = list_any (is_of k) ls

-- the line of a keyword, if there is one; lines without a fault have at most one
abbrev pub line_of : List Line → Key → Option Line
line_of ls k = last_or None (filter (is_of k) ls)

-- ---- the job

abbrev pub named : Option Line → Option (List ℕ)
named o = option_map (λ (l : Line). rest l.bytes) o

-- what a line says by its values
abbrev pub said : {X : Type 0} → (List (List ℕ) → X) → Option Line → Option X
said value o = option_map (λ (l : Line). value (values_in l.bytes)) o

-- what is said by the lines of the keywords
unfoldable pub draft_by : (Key → Option Line) → Draft
draft_by line = record {
  scene = named (line key.Scene);
  lights = named (line key.Lights);
  picture = named (line key.Picture);
  bounds = named (line key.Bounds);
  eye = said vector (line key.Eye);
  at = said vector (line key.At);
  size = said size (line key.Size);
  up = said vector (line key.Up);
  view = said amount (line key.View);
  grid = said (whole_at 0) (line key.Grid);
  seed = said (whole_at 0) (line key.Seed);
  error = said (whole_at 0) (line key.Error);
  cut = said (whole_at 0) (line key.Cut);
  white = said amount (line key.White);
  rule = said rule (line key.Rule);
}

abbrev pub draft_of : List Line → Draft
draft_of ls = draft_by (line_of ls)

-- the job of a text with which nothing is wrong
abbrev pub job_in : List ℕ → Job
job_in text = made (draft_of (spoken text))

-- ---- what is wrong

-- a line is judged by itself and by the keywords of the lines before it
abbrev pub fault_of : List Line → Line → Option ℕ
fault_of before l = option_map kind_number (kind_of (stood before) l.bytes)

-- the fault of the first faulty line of a text
unfoldable pub fault_in : List ℕ → Option Fault
fault_in text = faults.fault_in fault_of text

-- the first keyword that has to stand and does not
unfoldable pub missing : List Line → Option Key
missing ls = find (λ k. not (stood ls k)) required

-- the first test of the job as a whole that it fails
abbrev pub kind_in : List ℕ → Option FaultKind
kind_in text = first_kind (job_tests (job_in text))

-- a faulty line comes before a missing keyword, and that before the tests of the whole, which tell of line 0
unfoldable pub first_stop : List ℕ → Option JobStop
first_stop text =
    first_kind
    (option_map (λ (f : Fault). stop.Fault f.line f.kind) (fault_in text)
    ∷ option_map stop.Missing (missing (spoken text))
    ∷ option_map (λ (k : FaultKind). stop.Fault 0 (kind_number k)) (kind_in text) ∷ [])
