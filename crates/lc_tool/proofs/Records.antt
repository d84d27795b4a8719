-- The record that `audit` reads: its header, its lines, and what its course has gone through.
use Rattle.std.proofs.Common.{◌≡◌, ◌⊎◌, ℕ, List, [], length, refl, ◌∙◌, ap, subst, inl, inr, Option, Some, None, Result, Ok, Err, Bool, true, false, cond, nat_lt, ◌++◌}
use Rattle.std.specs.Prelude.{◌&&◌, ◌==◌}
use Rattle.std.specs.Str.{bytes_eq}
use Rattle.std.proofs.lemmas.Bool.{eq-eqb}
use Rattle.std.proofs.lemmas.Slice.Eq.{bytes_eq-Decides}
use Rattle.lc_num.specs.Faults.{Fault}
use Rattle.lc_desk.specs.Desk.{Files}
use Rattle.lc_job.specs.Jobs.{IsJob}
use Rattle.lc_job.specs.declared.job.Job.{Job}
use Rattle.lc_record.specs.Reading.{IsTextOf}
use Rattle.lc_record.specs.Readings.{record_in}
use Rattle.lc_record.specs.Record.{IsHeader, record_header}
use Rattle.lc_record.specs.declared.head.Header.{Header}
use Rattle.lc_record.specs.declared.reader.Record.{Record}
use Rattle.lc_record.proofs.Pieces.{headers_same}
use Rattle.lc_record.proofs.Told.{text_told}
use Rattle.lc_frame.specs.Frames.{header_of}
use Rattle.lc_tool.specs.declared.status.Source.TheVariants as source
use Rattle.lc_tool.specs.Audited.{AreLinesFor, IsRecord}
use Rattle.lc_tool.specs.Course.{Course, Refusal, and_then, at_once, goes_on, refuses}
use Rattle.lc_tool.specs.Lines.{fault_line, long_line, record_limit}
use Rattle.lc_tool.specs.Outcome.{kept_of, kept_text, other_header, record_of, same_header, text_of, unless_wrong, within}
use Rattle.lc_tool.specs.Status.{source_code}
use Rattle.lc_tool.proofs.Through.{ok_same, went_through, within_gave}

-- ---- the header

abbrev refusal : List ℕ → Result Record Refusal
refusal name = refuses (source_code source.Record) (fault_line name 1 other_header)

pub header_is : (job : Job) → IsJob job → IsHeader (header_of job)
header_is job h = record { width = h.camera.width; height = h.camera.height; grid = h.camera.grid; cut = (h.cut_some, h.cut_most); permille = h.permille }

-- the header is the job's
pub same_is : (name : List ℕ) (job : Job) (kept : Record) → kept.header ≡ header_of job → same_header name job kept ≡ at_once (Ok kept)
same_is name job kept e =
    ap (λ b. at_once (cond b (Ok kept) (refusal name)))
    ((bytes_eq-Decides (record_header kept.header) (record_header (header_of job))).1 (ap record_header e))

same_bytes : (h k : Header) → IsHeader h → IsHeader k → record_header h ≡ record_header k → h ≡ k
same_bytes h k v w e = (headers_same h k [] [] v w (ap (λ l. l ++ []) e)).0

differ : (b : Bool) → (b ≡ true → ⊥) → b ≡ false
differ true h = absurd (h refl)
differ false h = refl

-- numbers that are equal to themselves do not differ
pub never_other : (same : Bool) (a b c d e : ℕ) → same ≡ true → false ≡ (same && (a == a && (b == b && (c == c && (d == d && e == e))))) → ⊥
never_other same a b c d e s h =
    let f : false ≡ true = rw (s, eq-eqb a a refl, eq-eqb b b refl, eq-eqb c c refl, eq-eqb d d refl, eq-eqb e e refl) at h in cc

-- it is another
pub other_is : (name : List ℕ) (job : Job) (kept : Record) → IsJob job → IsRecord kept → (kept.header ≡ header_of job → ⊥)
    → same_header name job kept ≡ at_once (refuses (source_code source.Record) (fault_line name 1 other_header))
other_is name job kept valid is other =
    ap (λ b. at_once (cond b (Ok kept) (refusal name)))
    (differ (bytes_eq (record_header kept.header) (record_header (header_of job)))
    (λ e. other (same_bytes kept.header (header_of job) is.1.header (header_is job valid) ((bytes_eq-Decides (record_header kept.header) (record_header (header_of job))).0 e))))

whole_lines : (job : Job) (kept : Record) (text : List ℕ) (h : Header) → h ≡ header_of job → IsTextOf h kept.lines text → IsTextOf (header_of job) kept.lines text
whole_lines job kept text h e is = subst (λ k. IsTextOf k kept.lines text) e is

pub lines_are : (job : Job) (kept : Record) → IsRecord kept → kept.header ≡ header_of job → AreLinesFor job kept.lines
lines_are job kept is e =
    let whole = whole_lines job kept is.0 kept.header e is.1 in
    record { count = whole.count; valid = whole.valid }

-- ---- what the course has gone through

-- a record with the header of the job, whose text the file is
pub record IsKept (job : Job) (files : Files) (kept : Record) : Type 0 where
  pub text : List ℕ
  pub read : files job.bounds ≡ Some text
  pub whole : IsTextOf (header_of job) kept.lines text

wrong_gave : (name : List ℕ) (r : Result Record Fault) (kept : Record) → unless_wrong name r ≡ Ok kept → r ≡ Ok kept
wrong_gave name (Ok a) kept e = ap Ok (ok_same a kept e)
wrong_gave name (Err fault) kept e = cc

same_gave : (b : Bool) (name : List ℕ) (read kept : Record) → cond b (Ok read) (refusal name) ≡ Ok kept → (b ≡ true) × (read ≡ kept)
same_gave true name read kept e = (refl, ok_same read kept e)
same_gave false name read kept e = cc

pub record_through : (job : Job) (files : Files) (kept : Record) → IsJob job → (record_of job files).end ≡ Ok kept → IsKept job files kept
unfolding record_of
record_through job files kept valid e =
    let t = went_through (kept_of job.bounds files) (λ k. same_header job.bounds job k) kept e in
    let u = went_through (text_of record_limit job.bounds files) (λ text. kept_text job.bounds text) t.value t.stepped in
    let told : IsTextOf t.value.header t.value.lines u.value = text_told u.value t.value (wrong_gave job.bounds (record_in u.value) t.value u.went) in
    let same = same_gave (bytes_eq (record_header t.value.header) (record_header (header_of job))) job.bounds t.value kept t.went in
    let header : t.value.header ≡ header_of job =
    same_bytes t.value.header (header_of job) told.header (header_is job valid) ((bytes_eq-Decides (record_header t.value.header) (record_header (header_of job))).0 same.0) in
    record {
      text = u.value;
      read = within_gave record_limit job.bounds (files job.bounds) u.value u.stepped;
      whole = subst (λ (r : Record). IsTextOf (header_of job) r.lines u.value) same.1 (whole_lines job t.value u.value t.value.header header told);
    }

-- ---- what it refuses

-- the first step was refused, or the next
pub refused_through : {A B : Type 0} (step : Course A) (next : A → Course B) (r : Refusal) → (and_then step next).end ≡ Err r
    → (step.end ≡ Err r) ⊎ ((a : A) × (step.end ≡ Ok a) × ((next a).end ≡ Err r))
refused_through {A} {B} step next r e = go step.end refl e where
  go : (end : Result A Refusal) → step.end ≡ end → (goes_on step.reads end next).end ≡ Err r → (step.end ≡ Err r) ⊎ ((a : A) × (step.end ≡ Ok a) × ((next a).end ≡ Err r))
  go (Ok a) s e = inr (a, s, e)
  go (Err other) s e = inl (s ∙ same other e) where
    same : (other : Refusal) → ◌≡◌ {A = Result B Refusal} (Err other) (Err r) → ◌≡◌ {A = Result A Refusal} (Err other) (Err r)
    same other e = cc

long_status : (long : Bool) (name bytes : List ℕ) (r : Refusal) → cond long (refuses 10 (long_line record_limit name)) (Ok bytes) ≡ Err r → r.status ≡ 11 → ⊥
long_status true name bytes r e n = cc
long_status false name bytes r e n = cc

text_status : (name : List ℕ) (file : Option (List ℕ)) (r : Refusal) → within record_limit name file ≡ Err r → r.status ≡ 11 → ⊥
text_status name None r e n = cc
text_status name (Some bytes) r e n = long_status (nat_lt record_limit (length bytes)) name bytes r e n

wrong_status : (name : List ℕ) (kept : Result Record Fault) (r : Refusal) → unless_wrong name kept ≡ Err r → r.status ≡ 11 → ⊥
wrong_status name (Ok a) r e n = cc
wrong_status name (Err fault) r e n = cc

same_status : (b : Bool) (name : List ℕ) (read : Record) (r : Refusal) → cond b (Ok read) (refusal name) ≡ Err r → r.status ≡ 11 → ⊥
same_status true name read r e n = cc
same_status false name read r e n = cc

kept_status : (name : List ℕ) (files : Files) (r : Refusal) → (kept_of name files).end ≡ Err r → r.status ≡ 11 → ⊥
kept_status name files r e n = go (refused_through (text_of record_limit name files) (λ text. kept_text name text) r e) where
  go : ((text_of record_limit name files).end ≡ Err r) ⊎ ((text : List ℕ) × ((text_of record_limit name files).end ≡ Ok text) × ((kept_text name text).end ≡ Err r)) → ⊥
  go (inl e) = text_status name (files name) r e n
  go (inr t) = wrong_status name (record_in t.0) r t.2 n

-- a record is not refused with the status of a verdict
pub record_status : (job : Job) (files : Files) (r : Refusal) → (record_of job files).end ≡ Err r → r.status ≡ 11 → ⊥
unfolding record_of
record_status job files r e n = go (refused_through (kept_of job.bounds files) (λ k. same_header job.bounds job k) r e) where
  go : ((kept_of job.bounds files).end ≡ Err r) ⊎ ((k : Record) × ((kept_of job.bounds files).end ≡ Ok k) × ((same_header job.bounds job k).end ≡ Err r)) → ⊥
  go (inl e) = kept_status job.bounds files r e n
  go (inr t) = same_status (bytes_eq (record_header t.0.header) (record_header (header_of job))) job.bounds t.0 r t.2 n
