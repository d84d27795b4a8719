-- Steps on texts, which read nothing, alone and after a read.
use Rattle.std.proofs.Common.{◌≡◌, ℕ, ◌+◌, ◌≤◌, List, [], ◌++◌, sym, ◌∙◌, ap, subst, Option, Some, None, IfOk, IfErr, OnOk, Result, Ok, Err}
use Rattle.lc_desk.specs.Desk.{DeskState, Files}
use Rattle.lc_desk.specs.declared.desk.Slot.{Slot}
use Rattle.lc_tool.specs.declared.status.Source.{Source}
use Rattle.lc_tool.specs.declared.status.Stop.{Stop}
use Rattle.lc_tool.specs.declared.status.Stop.TheVariants.{Memory, Faulty}
use Rattle.lc_tool.specs.declared.status.Status.{Status}
use Rattle.lc_tool.specs.declared.status.Status.TheVariants.{Done, Usage, Stopped, Unwritten}
use Rattle.lc_tool.specs.Course.{Course, Refusal, refuses, goes_on, and_then, at_once, told}
use Rattle.lc_tool.specs.Ends.{Began, Ends, Counts}
use Rattle.lc_tool.specs.Lines.{memory_line}
use Rattle.lc_tool.specs.Noted.{Noted}
use Rattle.lc_tool.specs.Status.{source_code}
use Rattle.lc_tool.specs.Stopped.{Gave, NoReadCounted, Went, IsFaultLine, StoppedBy, Refuses}
use Rattle.lc_tool.specs.Work.{Work}
use Rattle.lc_tool.proofs.Keeps.{counts_then, reads_then}
use Rattle.lc_tool.proofs.Courses.{gave_then, less_told, refuses_first, refuses_next, went_on, went_once, went_then}
use Rattle.lc_tool.proofs.Stopping.{cause_since, memory_stops, noted_later, stopped_then, text_stops}

-- what is said over all files is said over these
abbrev any_files : Files
any_files name = None

-- ---- one text

-- it has its value
pub parsed : {A : Type 0} (course : Course A) (a : A) (x : DeskState) → course ≡ at_once (Ok a) → Went (Some course) a x x
parsed course a x is = went_once (λ files. course) a (Some any_files) x (λ files. is)

-- no memory
pub parse_short : {A : Type 0} (course : Course A) (x y : DeskState) → Noted memory_line x y → y.asked ≡ x.asked → NoReadCounted x y → StoppedBy Memory (Some course) x y
parse_short course x y noted same counts = memory_stops (λ files. course) (Some any_files) x y noted same counts

-- a fault
pub parse_faulty : {A : Type 0} (text : Source) (line : List ℕ) (course : Course A) (x y : DeskState) → IsFaultLine text line → course ≡ at_once (refuses (source_code text) line) → Noted line x y → y.asked ≡ x.asked → StoppedBy (Faulty text) (Some course) x y
parse_faulty text line course x y form is noted same = text_stops text line (λ files. course) (Some any_files) x y form (λ files. is) noted same

-- ---- a text that was read

-- what a step says that reads nothing, it says over the files of a desk
went_told : {A : Type 0} (course : Course A) (a : A) (held : Option Files) (x y : DeskState) → Went (Some course) a x y → Went (told (λ files. course) held) a x y
went_told course a held x y h = record { reads = h.reads; counts = h.counts; told = less_told course held (Gave a x y) h.told }

stopped_told : {A : Type 0} (stop : Stop) (course : Course A) (held : Option Files) (x y : DeskState) → StoppedBy stop (Some course) x y → StoppedBy stop (told (λ files. course) held) x y
stopped_told stop course held x y h = record { line = h.line; form = h.form; cause = h.cause; told = less_told course held (Refuses stop h.line x y) h.told; noted = h.noted }

module _ {A B : Type 0} (step : Files → Course A) (next : A → Course B) (a : A) (x y z : DeskState) (first : Went (told step x.held) a x y) where
  parsed_then : (b : B) → Went (Some (next a)) b y z → Went (told (λ files. and_then (step files) next) x.held) b x z
  parsed_then b h = went_then step (λ files. next) a b x y z first (went_told (next a) b y.held y z h)

  pub went_parsed : (result : Result B Stop) → IfOk result (λ b. Went (Some (next a)) b y z) → IfOk result (λ b. Went (told (λ files. and_then (step files) next) x.held) b x z)
  went_parsed (Ok b) h = parsed_then b h
  went_parsed (Err stop) h = tt

  -- the same, where the value is left in an object
  pub left_parsed : {T : Type 0} (result : Result T Stop) (b : B) → OnOk result (Went (Some (next a)) b y z) → OnOk result (Went (told (λ files. and_then (step files) next) x.held) b x z)
  left_parsed (Ok t) b h = parsed_then b h
  left_parsed (Err stop) b h = tt

  pub stopped_parsed : {T : Type 0} (result : Result T Stop) → IfErr result (λ stop. StoppedBy stop (Some (next a)) y z) → IfErr result (λ stop. StoppedBy stop (told (λ files. and_then (step files) next) x.held) x z)
  stopped_parsed (Ok t) h = tt
  stopped_parsed (Err stop) h = stopped_then stop step (λ files. next) a x y z first (stopped_told stop (next a) y.held y z h)

-- ---- two steps that read nothing

-- a first step that stopped
pub stopped_at : {A B : Type 0} (stop : Stop) (step : Course A) (next : A → Course B) (x y : DeskState) → StoppedBy stop (Some step) x y → StoppedBy stop (Some (and_then step next)) x y
stopped_at stop step next x y h = record { line = h.line; form = h.form; cause = h.cause; told = refuses_first stop h.line x y step next h.told; noted = h.noted }

module _ {A B : Type 0} (step : Course A) (next : A → Course B) (a : A) (x y z : DeskState) (first : Went (Some step) a x y) where
  -- a first step that went well, and then the next
  pub went_from : (b : B) → Went (Some (next a)) b y z → Went (Some (and_then step next)) b x z
  went_from b later = record { reads = reads_then x y z first.reads later.reads; counts = counts_then x y z first.counts later.counts; told = gave_then step next a b x y z first.told later.told }

  pub stopped_from : (stop : Stop) → StoppedBy stop (Some (next a)) y z → StoppedBy stop (Some (and_then step next)) x z
  stopped_from stop h = record {
    line = h.line;
    form = h.form;
    cause = cause_since stop x y z first.reads.later first.counts h.cause;
    told = refuses_next stop h.line x y z step next a first.told h.told;
    noted = noted_later h.line x y z first.reads h.noted;
  }

  pub went_from_if : (result : Result B Stop) → IfOk result (λ b. Went (Some (next a)) b y z) → IfOk result (λ b. Went (Some (and_then step next)) b x z)
  went_from_if (Ok b) h = went_from b h
  went_from_if (Err stop) h = tt

  pub stopped_from_if : {T : Type 0} (result : Result T Stop) → IfErr result (λ stop. StoppedBy stop (Some (next a)) y z) → IfErr result (λ stop. StoppedBy stop (Some (and_then step next)) x z)
  stopped_from_if (Ok t) h = tt
  stopped_from_if (Err stop) h = stopped_from stop h

module _ {A : Type 0} (slots : List Slot) (step : Course A) (next : A → Course Work) (a : A) (x y z : DeskState) (first : Went (Some step) a x y) where
  began_from : (work : Work) (start : DeskState) → Began slots (Some (next a)) work y start → Began slots (Some (and_then step next)) work x start
  began_from work start began =
      let both = went_from step next a x y start first work (record { reads = began.reads; counts = began.counts; told = began.told }) in
      record { on = began.on; reads = both.reads; counts = both.counts; told = both.told }

  -- the end of a later step is the end of the whole
  pub ends_from : (status : Status) → Ends status slots (Some (next a)) y z → Ends status slots (Some (and_then step next)) x z
  ends_from Done h = record { work = h.work; start = h.start; began = began_from h.work h.start h.began; made = h.made }
  ends_from Usage h = h
  ends_from (Stopped stop) h = stopped_from step next a x y z first stop h
  ends_from (Unwritten stop) h = record {
    work = h.work;
    start = h.start;
    began = began_from h.work h.start h.began;
    mid = h.mid;
    broke = h.broke;
    noted = h.noted;
    asked = h.asked;
  }

-- the count of a later step is that of the whole
pub counts_from : {A : Type 0} (status : Status) (step : Course A) (next : A → Work) (a : A) (steps_before steps_now : ℕ) → step.end ≡ Ok a → Counts status (Some (at_once (Ok (next a)))) steps_before steps_now → Counts status (Some (and_then step (λ b. at_once (Ok (next b))))) steps_before steps_now
counts_from status step next a steps_before steps_now e counted = λ done.
    subst (λ course. IfOk course.end (λ w. steps_now ≡ steps_before + w.evals)) (sym (went_on step (λ b. at_once (Ok (next b))) a e)) (counted done)

-- ---- what such steps read and refuse

-- two steps that read nothing
pub quiet_then : {A B : Type 0} (step : Course A) (next : A → Course B) → step.reads ≡ [] → ((a : A) → (next a).reads ≡ []) → (and_then step next).reads ≡ []
quiet_then {A} {B} step next none later = go step.end where
  go : (end : Result A Refusal) → (goes_on step.reads end next).reads ≡ []
  go (Ok a) = ap (λ l. l ++ (next a).reads) none ∙ later a
  go (Err r) = none

-- it is refused for a fault of a text alone
abbrev pub IsOfTexts : {A : Type 0} → Course A → Type 0
IsOfTexts course = IfErr course.end (λ r. (3 ≤ r.status) × (r.status ≤ 6))

pub texts_then : {A B : Type 0} (step : Course A) (next : A → Course B) → IsOfTexts step → ((a : A) → IsOfTexts (next a)) → IsOfTexts (and_then step next)
texts_then {A} {B} step next first later = go step.end first where
  go : (end : Result A Refusal) → IfErr end (λ r. (3 ≤ r.status) × (r.status ≤ 6)) → IfErr (goes_on step.reads end next).end (λ r. (3 ≤ r.status) × (r.status ≤ 6))
  go (Ok a) h = later a
  go (Err r) h = h
