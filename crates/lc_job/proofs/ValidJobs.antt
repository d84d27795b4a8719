-- The job of a text without a faulty line is within its ranges.
use Rattle.std.proofs.Common.{◌≡◌, ℕ, ◌≤◌, Bool, true, false, ◌&&◌, cond, List, [], ◌∷◌, ◌++◌, Option, Some, None, refl, sym, ap, ◌∙◌, append_assoc, arith, subst, ℤ, pos, negsuc, unsigned_abs, nat_le}
use Rattle.std.specs.Prelude.{unwrap_or}
use Rattle.std.proofs.lemmas.Bool.{and_parts, leb-true}
use Rattle.std.proofs.lemmas.List.{append-nil}
use Rattle.std.proofs.lemmas.Slice.Eq.{bytes_eq-Decides}
use Rattle.lc_num.specs.Vectors.{Within, zero_vector}
use Rattle.lc_num.specs.declared.vectors.Vec3.{Vec3}
use Rattle.lc_scan.specs.Coordinates.{is_place}
use Rattle.lc_scan.specs.Fields.{keyword_in, rest, values_in}
use Rattle.lc_scan.specs.Faults.{first_fault}
use Rattle.lc_scan.specs.Lines.{Line}
use Rattle.lc_scan.specs.LineTests.{first_kind, unless}
use Rattle.lc_scan.specs.Spoken.{spoken}
use Rattle.lc_scan.proofs.LineTestLemmas.{cons_both_passed, no_kind, unless_passed}
use Rattle.lc_scan.proofs.ReaderLemmas.{fault_then-none, first_fault-cons}
use Rattle.lc_view.specs.Camera.{IsCamera}
use Rattle.lc_job.specs.Drafts.{camera, made}
use Rattle.lc_job.specs.Jobs.{IsJob}
use Rattle.lc_job.specs.JobLine.{amount, amount_tests, are_decimals, are_wholes, decimal_at, is_amount, is_between, kind_by, kind_of, size, size_tests, tests, vector, vector_tests, whole_at, whole_number_tests}
use Rattle.lc_job.specs.JobFile.{draft_by, draft_of, fault_in, fault_of, is_of, job_in, line_of, said, stood}
use Rattle.lc_job.specs.Keys.{key_of, word}
use Rattle.lc_job.specs.FaultKinds.{kind_number}
use Rattle.lc_job.specs.declared.entry.Size.{Size}
use Rattle.lc_job.specs.declared.key.Key.{Key}
use Rattle.lc_job.specs.declared.key.Key.TheVariants as key
use Rattle.lc_job.proofs.DraftLemmas.{line_of-push}
use Rattle.lc_job.proofs.KeyLemmas.{key_of-word}

-- ---- the ranges of values that pass their tests

between : (least most n : ℕ) → is_between least most n ≡ true → (least ≤ n) × (n ≤ most)
between least most n e =
    let p = and_parts (nat_le least n) (nat_le n most) e in
    (leb-true least n p.0, leb-true n most p.1)

place_within : (v : Vec3) → is_place v ≡ true → Within 50_000_000 v
place_within v e =
    let p = and_parts (nat_le (unsigned_abs v.x) 50000000 && nat_le (unsigned_abs v.y) 50000000) (nat_le (unsigned_abs v.z) 50000000) e in
    let q = and_parts (nat_le (unsigned_abs v.x) 50000000) (nat_le (unsigned_abs v.y) 50000000) p.0 in
    record { x = leb-true _ _ q.0; y = leb-true _ _ q.1; z = leb-true _ _ p.1 }

-- the second of two tests has passed
second_passed : {K : Type 0} (a : Option K) (b : Bool) (kind : K) → first_kind (a ∷ unless b kind ∷ []) ≡ None → b ≡ true
second_passed a b kind e = unless_passed b kind (cons_both_passed (unless b kind) [] (cons_both_passed a (unless b kind ∷ []) e).1).0

vector_range : (values : List (List ℕ)) → first_kind (vector_tests values) ≡ None → Within 50_000_000 (vector values)
vector_range values e = place_within (vector values) (second_passed (unless (are_decimals 3 values) _) (is_place (vector values)) _ e)

whole_range : (least most : ℕ) (values : List (List ℕ)) → first_kind (whole_number_tests least most values) ≡ None → (least ≤ whole_at 0 values) × (whole_at 0 values ≤ most)
whole_range least most values e = between least most (whole_at 0 values) (second_passed (unless (are_wholes 1 values) _) (is_between least most (whole_at 0 values)) _ e)

amount_by : (most : ℕ) (z : ℤ) → is_amount most z ≡ true → (1 ≤ unsigned_abs z) × (unsigned_abs z ≤ most)
amount_by most (pos n) e = between 1 most n e
amount_by most (negsuc n) e = absurd cc

amount_range : (most : ℕ) (values : List (List ℕ)) → first_kind (amount_tests most values) ≡ None → (1 ≤ amount values) × (amount values ≤ most)
amount_range most values e = amount_by most (decimal_at 0 values) (second_passed (unless (are_decimals 1 values) _) (is_amount most (decimal_at 0 values)) _ e)

-- a picture's sides are within their range
pub record IsSize (s : Size) : Type 0 where
  pub width : (1 ≤ s.width) × (s.width ≤ 4096)
  pub height : (1 ≤ s.height) × (s.height ≤ 4096)

size_range : (values : List (List ℕ)) → first_kind (size_tests values) ≡ None → IsSize (size values)
size_range values e =
    let w = is_between 1 4096 (whole_at 0 values) in
    let h = is_between 1 4096 (whole_at 1 values) in
    let p = and_parts w h (second_passed (unless (are_wholes 2 values) _) (w && h) _ e) in
    record { width = between 1 4096 (whole_at 0 values) p.0; height = between 1 4096 (whole_at 1 values) p.1 }

-- ---- the line of each keyword passes the keyword's tests

Passes : Key → Line → Type 0
Passes k l = first_kind (tests k (rest l.bytes) (values_in l.bytes)) ≡ None

AllPass : List Line → Type 0
AllPass ls = (k : Key) (l : Line) → line_of ls k ≡ Some l → Passes k l

own_tests : (before : List Line) (l : Line) (k : Key) → kind_of (stood before) l.bytes ≡ None → is_of k l ≡ true → Passes k l
unfolding kind_of Passes
own_tests before l k good own =
    let field : keyword_in l.bytes ≡ word k = (bytes_eq-Decides (keyword_in l.bytes) (word k)).0 own in
    let found : key_of (keyword_in l.bytes) ≡ Some k = ap key_of field ∙ key_of-word k in
    let all = sym (ap (λ (o : Option Key). kind_by (stood before) o (rest l.bytes) (values_in l.bytes)) found) ∙ good in
    (cons_both_passed _ (tests k (rest l.bytes) (values_in l.bytes)) all).1

one_more_passes : (ls : List Line) (l : Line) → fault_of ls l ≡ None → AllPass ls → AllPass (ls ++ l ∷ [])
unfolding AllPass
one_more_passes ls l good all k m e = by_test (is_of k l) refl (sym (line_of-push ls l k) ∙ e)
  where
    by_test : (b : Bool) → is_of k l ≡ b → cond b (Some l) (line_of ls k) ≡ Some m → Passes k m
    by_test true own is = let same : l ≡ m = cc is in subst (Passes k) same (own_tests ls l k (no_kind kind_number _ good) own)
    by_test false own is = all k m is

all_pass : (before ls : List Line) → first_fault fault_of before ls ≡ None → AllPass before → AllPass (before ++ ls)
all_pass before [] good all = subst AllPass (sym (append-nil before)) all
all_pass before (l ∷ ls) good all =
    let both = fault_then-none (fault_of before l) l.number _ (sym (first_fault-cons fault_of before l ls _ refl) ∙ good) in
    subst AllPass (append_assoc before (l ∷ []) ls) (all_pass (before ++ l ∷ []) ls both.1 (one_more_passes before l both.0 all))

none_pass : AllPass []
unfolding AllPass
none_pass k l e = absurd cc

text_passes : (text : List ℕ) → fault_in text ≡ None → (k : Key) (l : Line) → line_of (spoken text) k ≡ Some l → first_kind (tests k (rest l.bytes) (values_in l.bytes)) ≡ None
unfolding fault_in AllPass Passes
text_passes text good = all_pass [] (spoken text) good none_pass

-- ---- a job

-- what is said, or else the default
said_or : {X : Type 0} (P : X → Type 0) (value : List (List ℕ) → X) (otherwise : X) (o : Option Line) → ((l : Line) → o ≡ Some l → P (value (values_in l.bytes))) → P otherwise → P (unwrap_or (said value o) otherwise)
said_or P value otherwise None own first = first
said_or P value otherwise (Some l) own first = own l refl

abbrev InRange : ℕ → ℕ → ℕ → Type 0
InRange least most n = (least ≤ n) × (n ≤ most)

camera_valid : (ls : List Line) → ((k : Key) (l : Line) → line_of ls k ≡ Some l → first_kind (tests k (rest l.bytes) (values_in l.bytes)) ≡ None) → IsCamera (camera (draft_of ls))
unfolding draft_by
camera_valid ls pass =
    let sides = said_or IsSize size (record { width = 1; height = 1 }) (line_of ls key.Size) (λ l e. size_range (values_in l.bytes) (pass key.Size l e)) (record { width = (omega arith, omega arith); height = (omega arith, omega arith) }) in
    record {
      eye = said_or (Within 50_000_000) vector zero_vector (line_of ls key.Eye) (λ l e. vector_range (values_in l.bytes) (pass key.Eye l e)) (record { x = omega arith; y = omega arith; z = omega arith });
      at = said_or (Within 50_000_000) vector zero_vector (line_of ls key.At) (λ l e. vector_range (values_in l.bytes) (pass key.At l e)) (record { x = omega arith; y = omega arith; z = omega arith });
      up = said_or (Within 50_000_000) vector (record { x = pos 0; y = pos 10000; z = pos 0 }) (line_of ls key.Up) (λ l e. vector_range (values_in l.bytes) (pass key.Up l e)) (record { x = omega arith; y = omega arith; z = omega arith });
      view = said_or (InRange 1 100000) amount 5000 (line_of ls key.View) (λ l e. amount_range 100000 (values_in l.bytes) (pass key.View l e)) (omega arith, omega arith);
      width = sides.width;
      height = sides.height;
      grid = said_or (InRange 1 16) (whole_at 0) 1 (line_of ls key.Grid) (λ l e. let r = whole_range 1 16 (values_in l.bytes) (pass key.Grid l e) in (r.0, omega (arith, r.1))) (omega arith, omega arith);
    }

job_valid_of : (ls : List Line) → ((k : Key) (l : Line) → line_of ls k ≡ Some l → first_kind (tests k (rest l.bytes) (values_in l.bytes)) ≡ None) → IsJob (made (draft_of ls))
unfolding draft_by made
job_valid_of ls pass =
    let permille = said_or (InRange 0 1000) (whole_at 0) 20 (line_of ls key.Error) (λ l e. whole_range 0 1000 (values_in l.bytes) (pass key.Error l e)) (omega arith, omega arith) in
    let cut = said_or (InRange 3 65536) (whole_at 0) 1000 (line_of ls key.Cut) (λ l e. whole_range 3 65536 (values_in l.bytes) (pass key.Cut l e)) (omega arith, omega arith) in
    let white = said_or (InRange 1 100000000) amount 10000 (line_of ls key.White) (λ l e. amount_range 100000000 (values_in l.bytes) (pass key.White l e)) (omega arith, omega arith) in
    record { camera = camera_valid ls pass; permille = permille.1; cut_some = cut.0; cut_most = cut.1; white_some = white.0; white_most = white.1 }

pub job_valid : (text : List ℕ) → fault_in text ≡ None → IsJob (job_in text)
job_valid text good = job_valid_of (spoken text) (text_passes text good)
