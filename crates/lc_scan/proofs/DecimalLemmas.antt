-- How a decimal is measured by its parts.
use Rattle.std.proofs.Common.{◌≡◌, ℕ, ◌+◌, ◌*◌, ◌^◌, ◌<◌, ◌≤◌, Bool, true, false, ◌||◌, cond, ltb, List, ◌++◌, length, min, Result, Ok, Err, IfOk, ℤ, refl, sym, ap, subst, ◌∙◌, arith, length-append, inl, inr}
use Rattle.std.specs.Int.RustNames.{unsigned_abs}
use Rattle.std.specs.List.{list_all}
use Rattle.std.specs.Char.{is_ascii_digit}
use Rattle.std.specs.Str.Parse.{digits_value, digits_value_after}
use Rattle.std.proofs.lemmas.Int.{ints}
use Rattle.std.proofs.lemmas.Bool.{lt-ltb, le-ltb, cases_lt, false≢true}
use Rattle.std.proofs.lemmas.List.Folds.{list_all-append}
use Rattle.lc_scan.specs.declared.fault.NumFault.{NumFault}
use Rattle.lc_scan.specs.declared.fault.NumFault.TheVariants.{Form, TooLong, Range}
use Rattle.lc_scan.specs.Whole.{are_digits}
use Rattle.lc_scan.specs.Decimal.{Parts, is_decimal, is_exponent, exponent_size, is_too_long, top, bottom, size, nearest, IsNearest, signed, measured, parts_of, decimal_of}
use Rattle.lc_scan.proofs.DigitLemmas.{both, after_append}
use Rattle.lc_scan.proofs.UnitLemmas.{ten_pos, nearest_is}

-- what stands before the point and after it are digits, and so is what stands in an exponent
pub decimal_digits : (p : Parts) → is_decimal p ≡ true → (list_all is_ascii_digit p.before ≡ true) × (list_all is_ascii_digit p.after ≡ true) × (is_exponent p.exponent ≡ true)
decimal_digits p e =
    let tests = both (are_digits (p.before ++ p.after)) (is_exponent p.exponent) e in
    let digits = both (list_all is_ascii_digit (p.before ++ p.after)) (ltb 0 (length (p.before ++ p.after))) tests.0 in
    let sides = both (list_all is_ascii_digit p.before) (list_all is_ascii_digit p.after) (sym (list_all-append is_ascii_digit p.before p.after) ∙ digits.0) in
    (sides.0, sides.1, tests.1)

or_true : (a : Bool) → (a || true) ≡ true
or_true true = refl
or_true false = refl

pub long_digits : (p : Parts) → 30 < length p.before + length p.after → Err TooLong ≡ measured p
unfolding is_too_long
long_digits p lt = rw (lt-ltb 30 (length (p.before ++ p.after)) (omega (arith, length-append p.before p.after))) refl

pub long_exponent : (p : Parts) (e : ℕ) → e ≡ min (exponent_size p.exponent) 41 → 40 < e → Err TooLong ≡ measured p
unfolding is_too_long
long_exponent p e is lt = rw (lt-ltb 40 (exponent_size p.exponent) (omega arith), or_true (ltb 30 (length (p.before ++ p.after)))) refl

-- the size decides only up to one above the limit
capped : (m n : ℕ) (negative : Bool) → n ≡ min m (10 ^ 14 + 1) → cond (ltb (10 ^ 14) m) (Err Range) (Ok (signed negative m)) ≡ cond (ltb (10 ^ 14) n) (Err Range) (Ok (signed negative n))
capped m n negative e =
    elim (cases_lt (10 ^ 14) m) [
      | inl lt ↦ let a : ltb (10 ^ 14) n ≡ true = lt-ltb _ _ (omega arith) in rw (lt-ltb (10 ^ 14) m lt, a) refl
      | inr le ↦ let a : n ≡ m = omega arith in rw a refl
    ]

-- the parts are not too long, and have this size up to the limit
pub record Sized (p : Parts) (exponent n : ℕ) : Type 0 where
  pub digits : length p.before + length p.after ≤ 30
  pub exponent_is : exponent ≡ min (exponent_size p.exponent) 41
  pub small : exponent ≤ 40
  pub size_is : n ≡ min (size p) (10 ^ 14 + 1)

measured_by : (p : Parts) (exponent n : ℕ) → Sized p exponent n → measured p ≡ cond (ltb (10 ^ 14) n) (Err Range) (Ok (signed p.negative n))
unfolding is_too_long
measured_by p exponent n s =
    let a : ltb 30 (length (p.before ++ p.after)) ≡ false = le-ltb _ _ (omega (arith, s.digits, length-append p.before p.after)) in
    let b : ltb 40 (exponent_size p.exponent) ≡ false = le-ltb _ _ (omega (arith, s.exponent_is, s.small)) in
    rw (a, b) (capped (size p) n p.negative s.size_is)

pub out_of_range : (p : Parts) (exponent n : ℕ) → Sized p exponent n → 10 ^ 14 < n → Err Range ≡ measured p
out_of_range p exponent n s lt = sym (measured_by p exponent n s ∙ rw (lt-ltb (10 ^ 14) n lt) refl)

pub in_range : (p : Parts) (exponent n : ℕ) (negative : Bool) (z : ℤ) → Sized p exponent n → n ≤ 10 ^ 14 → p.negative ≡ negative → z ≡ signed negative n → Ok z ≡ measured p
in_range p exponent n negative z s le e i = sym (measured_by p exponent n s ∙ rw (le-ltb (10 ^ 14) n le, e, i) refl)

-- ---- the size

-- the number of the digits, read before the point and then after it
pub record Read (p : Parts) (front number places : ℕ) : Type 0 where
  pub front_is : front ≡ digits_value_after 10 0 p.before
  pub number_is : number ≡ digits_value_after 10 front p.after
  pub places_is : places ≡ length p.after

all_digits : (p : Parts) (front number places : ℕ) → Read p front number places → number ≡ digits_value 10 (p.before ++ p.after)
all_digits p front number places r = r.number_is ∙ rw r.front_is (sym (after_append 0 p.before p.after))

pub size-shrinks : (p : Parts) (front number places exponent : ℕ) → Read p front number places → p.shrinks ≡ true → exponent ≡ exponent_size p.exponent → nearest (number * 10 ^ 4) (10 ^ (places + exponent)) ≡ size p
unfolding size
size-shrinks p front number places exponent r s e = rw (all_digits p front number places r, r.places_is, e, s) refl

pub size-grows : (p : Parts) (front number places exponent : ℕ) → Read p front number places → p.shrinks ≡ false → exponent ≡ exponent_size p.exponent → nearest (number * 10 ^ (4 + exponent)) (10 ^ places) ≡ size p
unfolding size
size-grows p front number places exponent r s e =
    let none : length p.after ≡ length p.after + 0 = omega arith in
    rw (all_digits p front number places r, r.places_is, e, s) (ap (λ (k : ℕ). nearest (digits_value 10 (p.before ++ p.after) * 10 ^ (4 + exponent_size p.exponent)) (10 ^ k)) none)

-- ---- the nearest units

signed_size : (negative : Bool) (n : ℕ) → unsigned_abs (signed negative n) ≡ n
signed_size true n = omega (arith, ints)
signed_size false n = refl

units_are : (a b : Bool) (z w : ℤ) → cond a (Err TooLong) (cond b (Err Range) (Ok z)) ≡ Ok w → z ≡ w
units_are true b z w e = absurd cc
units_are false true z w e = absurd cc
units_are false false z w e = cc

size-nearest : (p : Parts) → IsNearest (size p) (top p) (bottom p)
unfolding size
size-nearest p = nearest_is (top p) (bottom p) (ten_pos (length p.after + cond p.shrinks (exponent_size p.exponent) 0))

pub measured-nearest : (p : Parts) (r : Result ℤ NumFault) → r ≡ measured p → IfOk r (λ units. IsNearest (unsigned_abs units) (top p) (bottom p))
measured-nearest p (Ok z) e =
    let units = units_are (is_too_long p) (ltb (10 ^ 14) (size p)) (signed p.negative (size p)) z (sym e) in
    subst (λ (n : ℕ). IsNearest n (top p) (bottom p)) (sym (signed_size p.negative (size p)) ∙ ap unsigned_abs units) (size-nearest p)
measured-nearest p (Err fault) e = tt

-- ---- the range of the units

within_by : (a b : Bool) (n : ℕ) (z w : ℤ) → cond a (Err TooLong) (cond b (Err Range) (Ok z)) ≡ Ok w → ltb (10 ^ 14) n ≡ b → n ≤ 10 ^ 14
within_by true b n z w e i = absurd cc
within_by false true n z w e i = absurd cc
within_by false false n z w e i =
    elim (cases_lt (10 ^ 14) n) [
      | inl lt ↦ absurd (false≢true (sym i ∙ lt-ltb (10 ^ 14) n lt))
      | inr le ↦ le
    ]

measured_within : (p : Parts) (z : ℤ) → measured p ≡ Ok z → unsigned_abs z ≤ 10 ^ 14
measured_within p z e =
    let units = units_are (is_too_long p) (ltb (10 ^ 14) (size p)) (signed p.negative (size p)) z e in
    let small = within_by (is_too_long p) (ltb (10 ^ 14) (size p)) (size p) (signed p.negative (size p)) z e refl in
    let same : unsigned_abs z ≡ size p = sym (ap unsigned_abs units) ∙ signed_size p.negative (size p) in
    omega (arith, same, small)

judged_within : (p : Parts) (b : Bool) (z : ℤ) → cond b (measured p) (Err Form) ≡ Ok z → unsigned_abs z ≤ 10 ^ 14
judged_within p true z e = measured_within p z e
judged_within p false z e = absurd cc

-- the units of a decimal are at most 10^14 in absolute value
pub decimal_within : (field : List ℕ) (z : ℤ) → decimal_of field ≡ Ok z → unsigned_abs z ≤ 10 ^ 14
decimal_within field z e = judged_within (parts_of field) (is_decimal (parts_of field)) z e

pub result_within : (field : List ℕ) (r : Result ℤ NumFault) → r ≡ decimal_of field → IfOk r (λ units. unsigned_abs units ≤ 10 ^ 14)
result_within field (Ok z) e = decimal_within field z (sym e)
result_within field (Err fault) e = tt
