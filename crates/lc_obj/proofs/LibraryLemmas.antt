-- The libraries of a line, as they are named one after the other.
use Rattle.std.proofs.Common.{◌≡◌, ℕ, ◌<◌, List, [], ◌∷◌, length, Some, None, refl, sym, ap, ◌∙◌, arith}
use Rattle.std.specs.Prelude.{map}
use Rattle.std.specs.Str.{bytes_eq}
use Rattle.indexmap.specs.IndexSet.{insert_key, insert_all}
use Rattle.lc_obj.specs.declared.fault_kind.FaultKind.{FaultKind}
use Rattle.lc_obj.specs.declared.fault_kind.FaultKind.TheVariants as kind
use Rattle.lc_scan.specs.LineTests.{first_kind}
use Rattle.lc_obj.specs.ObjLine.{count_test, library_tests, name_test}
use Rattle.lc_scan.proofs.LineTestLemmas.{cons_passed, cons_found}
use Rattle.lc_obj.proofs.ValueLemmas.{enough, too_few}

-- what is named so far, and what is left to name
pub record Named (whole before left named libs : List (List ℕ)) : Type 0 where
  pub tests_are : first_kind (map name_test whole) ≡ first_kind (map name_test left)
  pub named_are : insert_all bytes_eq before whole ≡ insert_all bytes_eq named left
  pub libs_are : libs ≡ named

pub start : (whole before libs : List (List ℕ)) → libs ≡ before → Named whole before whole before libs
start whole before libs e = record { tests_are = refl; named_are = refl; libs_are = e }

name_passed : (left later : List (List ℕ)) (name : List ℕ) → left ≡ name ∷ later → name_test name ≡ None → first_kind (map name_test left) ≡ first_kind (map name_test later)
name_passed left later name e t = ap (λ (ns : List (List ℕ)). first_kind (map name_test ns)) e ∙ cons_passed (name_test name) (map name_test later) t

pub names_one : (whole before left later named more libs : List (List ℕ)) (name : List ℕ) → left ≡ name ∷ later → (name_test name ≡ None) × (more ≡ insert_key bytes_eq named name) × (libs ≡ more) → {held : List (List ℕ)} → Named whole before left named held → Named whole before later more libs
names_one whole before left later named more libs name e a h = record {
  tests_are = h.tests_are ∙ name_passed left later name e a.0;
  named_are = h.named_are ∙ ap (λ (ns : List (List ℕ)). insert_all bytes_eq named ns) e ∙ ap (λ (ns : List (List ℕ)). insert_all bytes_eq ns later) (sym a.1);
  libs_are = a.2;
}

pub wrong_name : (whole before left later named libs : List (List ℕ)) (name : List ℕ) (k : FaultKind) → left ≡ name ∷ later → name_test name ≡ Some k → Named whole before left named libs → first_kind (map name_test whole) ≡ Some k
wrong_name whole before left later named libs name k e t h =
    h.tests_are ∙ ap (λ (ns : List (List ℕ)). first_kind (map name_test ns)) e ∙ cons_found (name_test name) (map name_test later) k t

pub ends : (whole before left named libs : List (List ℕ)) → left ≡ [] → Named whole before left named libs → (first_kind (map name_test whole) ≡ None) × (named ≡ insert_all bytes_eq before whole) × (libs ≡ named)
ends whole before left named libs e h = (
  h.tests_are ∙ ap (λ (ns : List (List ℕ)). first_kind (map name_test ns)) e,
  sym (h.named_are ∙ ap (λ (ns : List (List ℕ)). insert_all bytes_eq named ns) e),
  h.libs_are,
)

-- ---- the whole line

pub no_library : (vs : List (List ℕ)) → length vs ≡ 0 → first_kind (library_tests vs) ≡ Some kind.Words
unfolding library_tests
no_library vs e = cons_found (count_test 1 kind.Words vs) _ kind.Words (too_few 1 kind.Words vs (omega arith))

pub some_libraries : (vs : List (List ℕ)) → 0 < length vs → first_kind (library_tests vs) ≡ first_kind (map name_test vs)
unfolding library_tests
some_libraries vs some = cons_passed (count_test 1 kind.Words vs) _ (enough 1 kind.Words vs (omega arith))
