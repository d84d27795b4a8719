-- A field is digits just where it is a numeral.
use Rattle.std.proofs.Common.{◌≡◌, ℕ, Bool, true, false, ◌&&◌, cond, ltb, List, [], ◌∷◌, length, Ok, Err, refl, sym, ap, ◌∙◌}
use Rattle.std.specs.List.{list_all}
use Rattle.std.specs.Char.{is_ascii_digit}
use Rattle.std.specs.Str.{all_ascii_digits}
use Rattle.std.specs.Str.Parse.{IsNumeral, digits_value}
use Rattle.std.proofs.lemmas.Bool.{lt-ltb, ltb-true}
use Rattle.std.proofs.lemmas.Str.Parse.{IsNumeralModel, numerals_by_value, tells_all_ascii_digits}
use Rattle.lc_scan.specs.declared.fault.NumFault.TheVariants.{Form, TooLong, Range}
use Rattle.lc_scan.specs.Whole.{are_digits, counted, whole_of}
use Rattle.lc_scan.proofs.DigitLemmas.{both}

all_digits-is : (bytes : List ℕ) → list_all is_ascii_digit bytes ≡ all_ascii_digits bytes
all_digits-is [] = refl
all_digits-is (b ∷ bs) = ap (λ (x : Bool). is_ascii_digit b && x) (all_digits-is bs)

numerals : IsNumeralModel (λ ds. all_ascii_digits ds ≡ true) (digits_value 10)
numerals = numerals_by_value _ tells_all_ascii_digits

are_digits-numeral : (field : List ℕ) → IsNumeral 10 field → are_digits field ≡ true
are_digits-numeral field n = rw (all_digits-is field ∙ numerals.from field n.1, lt-ltb 0 (length field) n.0) refl

numeral_of_digits : (field : List ℕ) → are_digits field ≡ true → IsNumeral 10 field
numeral_of_digits field e =
    let tests = both (list_all is_ascii_digit field) (ltb 0 (length field)) e in
    (ltb-true 0 (length field) tests.1, numerals.to field (sym (all_digits-is field) ∙ tests.0))

pub whole_of-numeral : (field : List ℕ) → IsNumeral 10 field → whole_of field ≡ counted field
whole_of-numeral field n = rw (are_digits-numeral field n) refl

no_form : (a b : Bool) (n : ℕ) → cond a (Err TooLong) (cond b (Err Range) (Ok n)) ≡ Err Form → ⊥
no_form true b n e = cc
no_form false true n e = cc
no_form false false n e = cc

pub form_no_numeral : (field : List ℕ) → whole_of field ≡ Err Form → IsNumeral 10 field → ⊥
form_no_numeral field e n =
    no_form (ltb 30 (length field)) (ltb 18_446_744_073_709_551_615 (digits_value 10 field)) (digits_value 10 field) (sym (whole_of-numeral field n) ∙ e)

form_by : (field : List ℕ) (b : Bool) → are_digits field ≡ b → (IsNumeral 10 field → ⊥) → whole_of field ≡ Err Form
form_by field true e none = absurd (none (numeral_of_digits field e))
form_by field false e none = ap (λ (x : Bool). cond x (counted field) (Err Form)) e

pub no_numeral_form : (field : List ℕ) → (IsNumeral 10 field → ⊥) → whole_of field ≡ Err Form
no_numeral_form field none = form_by field (are_digits field) refl none
