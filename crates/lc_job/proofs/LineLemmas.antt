-- A line by its keyword, its name and its values.
use Rattle.std.proofs.Common.{◌≡◌, ℕ, ◌<◌, Bool, true, false, cond, not, nat_lt, List, [], ◌∷◌, drop, length, Option, Some, None, Result, option_map, refl, sym, ap, ◌∙◌, subst, arith}
use Rattle.std.specs.Prelude.{MatchResult, slice_index_or}
use Rattle.std.proofs.lemmas.Bool.{le-ltb, lt-ltb}
use Rattle.std.proofs.lemmas.Result.{MatchResult-weaker}
use Rattle.lc_scan.specs.Fields.{fields, rest}
use Rattle.lc_scan.specs.LineTests.{first_kind, unless}
use Rattle.lc_scan.specs.Names.{is_utf8, name_in}
use Rattle.lc_scan.proofs.LineTestLemmas.{cons_found, cons_passed, unless_false, unless_true}
use Rattle.lc_job.specs.JobLine.{entry_by, entry_of, kind_by, kind_of, name_tests, tests}
use Rattle.lc_job.specs.Keys.{key_of}
use Rattle.lc_job.specs.Stops.{IsLineStop}
use Rattle.lc_job.specs.declared.entry.Entry.{Entry}
use Rattle.lc_job.specs.declared.key.Key.{Key}
use Rattle.lc_job.specs.declared.fault_kind.FaultKind.TheVariants as kind
use Rattle.lc_job.specs.declared.stop.LineStop.{LineStop}

-- ---- a name

pub no_name : (name : List ℕ) → length name ≡ 0 → first_kind (name_tests name) ≡ Some kind.Form
no_name name e = cons_found _ _ kind.Form (unless_false (nat_lt 0 (length name)) kind.Form (le-ltb 0 (length name) (omega (arith, e))))

some_name : (name : List ℕ) → 0 < length name → first_kind (name_tests name) ≡ first_kind (unless (is_utf8 name) kind.Utf8 ∷ [])
some_name name some = cons_passed _ _ (unless_true (nat_lt 0 (length name)) kind.Form (lt-ltb 0 (length name) some))

-- bytes have a name just where they are UTF-8, and it is their own
unnamed : (bytes : List ℕ) → None ≡ name_in bytes → is_utf8 bytes ≡ false
unnamed bytes e = by_test (is_utf8 bytes) e
  where
    by_test : (b : Bool) → None ≡ cond b (Some bytes) None → b ≡ false
    by_test true own = absurd cc
    by_test false own = refl

named : (bytes name : List ℕ) → Some name ≡ name_in bytes → (is_utf8 bytes ≡ true) × (bytes ≡ name)
named bytes name e = by_test (is_utf8 bytes) e
  where
    by_test : (b : Bool) → Some name ≡ cond b (Some bytes) None → (b ≡ true) × (bytes ≡ name)
    by_test true own = (refl, cc)
    by_test false own = absurd cc

pub name_refused : (bytes : List ℕ) → 0 < length bytes → None ≡ name_in bytes → first_kind (name_tests bytes) ≡ Some kind.Utf8
name_refused bytes some e = some_name bytes some ∙ cons_found _ [] kind.Utf8 (unless_false (is_utf8 bytes) kind.Utf8 (unnamed bytes e))

pub name_passes : (bytes name : List ℕ) → 0 < length bytes → Some name ≡ name_in bytes → (first_kind (name_tests bytes) ≡ None) × (bytes ≡ name)
name_passes bytes name some e =
    let own = named bytes name e in
    (some_name bytes some ∙ cons_passed _ [] (unless_true (is_utf8 bytes) kind.Utf8 own.0), own.1)

-- ---- a line of these fields

pub no_keyword : (stood : Key → Bool) (line word : List ℕ) (values : List (List ℕ)) → fields line ≡ word ∷ values → key_of word ≡ None → kind_of stood line ≡ Some kind.Keyword
unfolding kind_of
no_keyword stood line word values e k =
    ap (λ (fs : List (List ℕ)). kind_by stood (key_of (slice_index_or fs 0 [])) (rest line) (drop 1 fs)) e ∙ ap (λ (o : Option Key). kind_by stood o (rest line) values) k

-- its first field is a keyword
pub record HasKey (line word : List ℕ) (values : List (List ℕ)) (k : Key) : Type 0 where
  pub fields_are : fields line ≡ word ∷ values
  pub key_is : key_of word ≡ Some k

by_key : (stood : Key → Bool) (line word : List ℕ) (values : List (List ℕ)) (k : Key) → HasKey line word values k → kind_of stood line ≡ first_kind (unless (not (stood k)) kind.Repeated ∷ tests k (rest line) values)
unfolding kind_of
by_key stood line word values k h =
    ap (λ (fs : List (List ℕ)). kind_by stood (key_of (slice_index_or fs 0 [])) (rest line) (drop 1 fs)) h.fields_are ∙ ap (λ (o : Option Key). kind_by stood o (rest line) values) h.key_is

pub repeated : (stood : Key → Bool) (line word : List ℕ) (values : List (List ℕ)) (k : Key) → HasKey line word values k → stood k ≡ true → kind_of stood line ≡ Some kind.Repeated
repeated stood line word values k h e = by_key stood line word values k h ∙ cons_found _ _ kind.Repeated (unless_false (not (stood k)) kind.Repeated (ap not e))

fresh : (stood : Key → Bool) (line word : List ℕ) (values : List (List ℕ)) (k : Key) → HasKey line word values k → stood k ≡ false → kind_of stood line ≡ first_kind (tests k (rest line) values)
fresh stood line word values k h e = by_key stood line word values k h ∙ cons_passed _ _ (unless_true (not (stood k)) kind.Repeated (ap not e))

entry_is : (line word : List ℕ) (values : List (List ℕ)) (k : Key) → HasKey line word values k → entry_of line ≡ Some (entry_by k (rest line) values)
unfolding entry_of
entry_is line word values k h =
    ap (λ (fs : List (List ℕ)). option_map (λ (j : Key). entry_by j (rest line) (drop 1 fs)) (key_of (slice_index_or fs 0 []))) h.fields_are
    ∙ ap (λ (o : Option Key). option_map (λ (j : Key). entry_by j (rest line) values) o) h.key_is

-- what is answered for its values is so for the line
pub line_by_values : (stood : Key → Bool) (line word name : List ℕ) (values : List (List ℕ)) (k : Key) (r : Result Entry LineStop) → HasKey line word values k → stood k ≡ false → name ≡ rest line
    → MatchResult r (λ entry. (first_kind (tests k name values) ≡ None) × (entry_by k name values ≡ entry)) (λ stop. IsLineStop stop (first_kind (tests k name values)))
    → MatchResult r (λ entry. (kind_of stood line ≡ None) × (entry_of line ≡ Some entry)) (λ stop. IsLineStop stop (kind_of stood line))
line_by_values stood line word name values k r h new n m =
    let same : kind_of stood line ≡ first_kind (tests k name values) = fresh stood line word values k h new ∙ ap (λ (x : List ℕ). first_kind (tests k x values)) (sym n) in
    let says : entry_of line ≡ Some (entry_by k name values) = entry_is line word values k h ∙ ap (λ (x : List ℕ). Some (entry_by k x values)) (sym n) in
    MatchResult-weaker r m (λ entry p. (same ∙ p.0, says ∙ ap (λ (x : Entry). Some x) p.1)) (λ stop q. subst (IsLineStop stop) (sym same) q)
