-- For a reader that makes the tests of a line one after the other.
use Rattle.std.proofs.Common.{◌≡◌, ℕ, Bool, true, false, cond, List, [], ◌∷◌, ◌++◌, Option, Some, None, refl, ap, ◌∙◌}
use Rattle.std.specs.Prelude.{option_map}
use Rattle.lc_scan.specs.LineTests.{first_kind, unless}

-- ---- some tests, and then later ones

-- where one of them fails, it decides
pub found : {K : Type 0} (tests later : List (Option K)) (kind : K) → first_kind tests ≡ Some kind → first_kind (tests ++ later) ≡ Some kind
found [] later kind e = absurd cc
found (None ∷ tests) later kind e = found tests later kind e
found (Some own ∷ tests) later kind e = e

-- where all of them pass, the later ones decide
pub passed : {K : Type 0} (tests later : List (Option K)) → first_kind tests ≡ None → first_kind (tests ++ later) ≡ first_kind later
passed [] later e = refl
passed (None ∷ tests) later e = passed tests later e
passed (Some own ∷ tests) later e = absurd cc

pub both_passed : {K : Type 0} (tests later : List (Option K)) → first_kind (tests ++ later) ≡ None → (first_kind tests ≡ None) × (first_kind later ≡ None)
both_passed [] later e = (refl, e)
both_passed (None ∷ tests) later e = both_passed tests later e
both_passed (Some own ∷ tests) later e = absurd cc

-- ---- one test, and then later ones

pub cons_found : {K : Type 0} (test : Option K) (later : List (Option K)) (kind : K) → test ≡ Some kind → first_kind (test ∷ later) ≡ Some kind
cons_found {K = K} test later kind e = ap (λ (o : Option K). first_kind (o ∷ later)) e

pub cons_passed : {K : Type 0} (test : Option K) (later : List (Option K)) → test ≡ None → first_kind (test ∷ later) ≡ first_kind later
cons_passed {K = K} test later e = ap (λ (o : Option K). first_kind (o ∷ later)) e

pub cons_both_passed : {K : Type 0} (test : Option K) (later : List (Option K)) → first_kind (test ∷ later) ≡ None → (test ≡ None) × (first_kind later ≡ None)
cons_both_passed None later e = (refl, e)
cons_both_passed (Some kind) later e = absurd cc

-- ---- a test by what it asks

pub unless_true : {K : Type 0} (b : Bool) (kind : K) → b ≡ true → unless b kind ≡ None
unless_true b kind e = ap (λ (x : Bool). unless x kind) e

pub unless_false : {K : Type 0} (b : Bool) (kind : K) → b ≡ false → unless b kind ≡ Some kind
unless_false b kind e = ap (λ (x : Bool). unless x kind) e

pub unless_passed : {K : Type 0} (b : Bool) (kind : K) → unless b kind ≡ None → b ≡ true
unless_passed true kind e = refl
unless_passed false kind e = absurd cc

pub first_kind-unless : {K : Type 0} (b x : Bool) (kind : K) (later : List (Option K)) → b ≡ x → first_kind (unless b kind ∷ later) ≡ cond x (first_kind later) (Some kind)
first_kind-unless b x kind later e = ap (λ (y : Bool). first_kind (unless y kind ∷ later)) e ∙ by_test x
  where
    by_test : (y : Bool) → first_kind (unless y kind ∷ later) ≡ cond y (first_kind later) (Some kind)
    by_test true = refl
    by_test false = refl

-- ---- a kind by its number

pub no_kind : {K : Type 0} (number : K → ℕ) (kind : Option K) → option_map number kind ≡ None → kind ≡ None
no_kind number None e = refl
no_kind number (Some own) e = absurd cc
