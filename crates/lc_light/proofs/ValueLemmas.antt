-- The values of a line after the first k.
use Rattle.std.proofs.Common.{◌≡◌, ℕ, ◌+◌, List, [], drop, refl, sym, ap, ◌∙◌, add-zero}
use Rattle.std.proofs.lemmas.List.{get_or-drop}
use Rattle.lc_scan.specs.Decimal.{decimal_of}
use Rattle.lc_scan.specs.Whole.{whole_of}
use Rattle.lc_light.specs.LightLine.{number, whole_number, vector_tests, side_tests, power_tests, vector_at, power_at}

number_after : (k j : ℕ) (values rest : List (List ℕ)) → rest ≡ drop k values → number (k + j) values ≡ number j rest
number_after k j values rest e = sym (ap (number j) e ∙ ap decimal_of (get_or-drop k values j []))

first_number : (k : ℕ) (values rest : List (List ℕ)) → rest ≡ drop k values → number k values ≡ number 0 rest
first_number k values rest e = ap (λ (n : ℕ). number n values) (sym (add-zero k)) ∙ number_after k 0 values rest e

pub whole_after : (k : ℕ) (values rest : List (List ℕ)) → rest ≡ drop k values → whole_number k values ≡ whole_number 0 rest
whole_after k values rest e = ap (λ (n : ℕ). whole_number n values) (sym (add-zero k)) ∙ sym (ap (whole_number 0) e ∙ ap whole_of (get_or-drop k values 0 []))

module _ (k : ℕ) (values rest : List (List ℕ)) (e : rest ≡ drop k values) where
  pub vector_tests_after : vector_tests k values ≡ vector_tests 0 rest
  vector_tests_after = rw (first_number k values rest e, number_after k 1 values rest e, number_after k 2 values rest e) refl

  pub side_tests_after : side_tests k values ≡ side_tests 0 rest
  side_tests_after = rw (first_number k values rest e, number_after k 1 values rest e, number_after k 2 values rest e) refl

  pub power_tests_after : power_tests k values ≡ power_tests 0 rest
  power_tests_after = rw (first_number k values rest e, number_after k 1 values rest e, number_after k 2 values rest e) refl

  pub vector_after : vector_at k values ≡ vector_at 0 rest
  vector_after = rw (first_number k values rest e, number_after k 1 values rest e, number_after k 2 values rest e) refl

  pub power_after : power_at k values ≡ power_at 0 rest
  power_after = rw (first_number k values rest e, number_after k 1 values rest e, number_after k 2 values rest e) refl
