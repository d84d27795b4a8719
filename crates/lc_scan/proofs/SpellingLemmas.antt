-- The parts of a field are those of each spelling of it.
use Rattle.std.proofs.Common.{◌≡◌, ℕ, ◌+◌, ◌^◌, ◌<◌, ◌≤◌, Bool, true, false, cond, not, eqb, ltb, List, [], ◌∷◌, ◌++◌, length, get_or, take, drop, Option, Some, None, Ok, Err, ℤ, refl, sym, ap, subst, ◌∙◌, append_assoc, arith, inl, inr, length-append}
use Rattle.std.specs.List.{list_all, list_any, before_first, after_first, position_or_len, All}
use Rattle.std.specs.Char.{is_ascii_digit}
use Rattle.std.proofs.lemmas.List.{append-nil, take_at, drop_at, get_or_at, get_or_append_left}
use Rattle.std.proofs.lemmas.List.Elements.{All-from_get_or, All-get_or, All-cons, All-append}
use Rattle.std.proofs.lemmas.List.Folds.{list_all-append}
use Rattle.std.proofs.lemmas.List.Sums.{position_or_len_is, split_at_first, passes_at_first, prefix_len-le-length}
use Rattle.std.proofs.lemmas.Bool.{cases_lt, cases_Bool, lt-ltb, ltb-true, eqb-true}
use Rattle.std.proofs.lemmas.Bool.Decides.{nat_tests}
use Rattle.lc_scan.specs.declared.fault.NumFault.TheVariants.{Form, TooLong, Range}
use Rattle.lc_scan.specs.Whole.{are_digits}
use Rattle.lc_scan.specs.Decimal.{Parts, parts_of, is_mark, is_point, is_sign, is_negative, unsigned, is_exponent, is_decimal, is_too_long, size, signed, measured, judged, decimal_of}
use Rattle.lc_scan.specs.Spelling.{Sign, bare, plus, minus, sign_text, is_minus, Exponent, Spelling, fraction_text, exponent_text, spelled, AreDigits, digits_in, IsExponent, IsDecimal, with_exponent, parts}
use Rattle.lc_scan.proofs.DigitLemmas.{both, digit_at, none_before, none_after, none_any, some_any, list_any-is}
use Rattle.lc_scan.proofs.DecimalLemmas.{decimal_digits}

-- ---- bytes of a kind

abbrev Fails : (ℕ → Bool) → List ℕ → Type 0
Fails test bs = All (λ b. test b ≡ false) bs

digit_plain : (c : ℕ) → is_ascii_digit c ≡ true → (is_mark c ≡ false) × (is_point c ≡ false) × (is_sign c ≡ false)
digit_plain c e = (grind (arith, nat_tests), grind (arith, nat_tests), grind (arith, nat_tests))

digits_fail : (test : ℕ → Bool) (ds : List ℕ) → ((c : ℕ) → is_ascii_digit c ≡ true → test c ≡ false) → AreDigits ds → Fails test ds
digits_fail test ds h e = All-from_get_or (λ b. test b ≡ false) ds 0 (λ i lt. h (get_or ds i 0) (digit_at ds i e lt))

none_fail : (test : ℕ → Bool) → Fails test []
none_fail test = All-from_get_or (λ b. test b ≡ false) [] 0 (λ i lt. absurd (omega arith))

fraction_fails : (test : ℕ → Bool) (after : Option (List ℕ)) → ((c : ℕ) → is_ascii_digit c ≡ true → test c ≡ false) → test 46 ≡ false → AreDigits (digits_in after) → Fails test (fraction_text after)
fraction_fails test None h p e = none_fail test
fraction_fails test (Some ds) h p e = All-cons (λ b. test b ≡ false) 46 ds p (digits_fail test ds h e)

sign_fails : (sign : Sign) → Fails is_mark (sign_text sign)
sign_fails bare = none_fail is_mark
sign_fails plus = All-cons (λ b. is_mark b ≡ false) 43 [] refl (none_fail is_mark)
sign_fails minus = All-cons (λ b. is_mark b ≡ false) 45 [] refl (none_fail is_mark)

-- ---- the parts round a byte that is the first of its kind

passing_place : (test : ℕ → Bool) (xs : List ℕ) (y : ℕ) (ys : List ℕ) → Fails test xs → test y ≡ true → position_or_len test (xs ++ y ∷ ys) ≡ length xs
passing_place test xs y ys h e =
    position_or_len_is test (xs ++ y ∷ ys) (length xs) 0 (omega (arith, length-append xs (y ∷ ys)))
    (λ k lt. ap test (get_or_append_left xs (y ∷ ys) 0 k lt) ∙ All-get_or (λ b. test b ≡ false) xs k 0 lt h)
    (λ _. ap test (get_or_at xs y ys 0 (length xs) refl) ∙ e)

passing_before : (test : ℕ → Bool) (xs : List ℕ) (y : ℕ) (ys : List ℕ) → Fails test xs → test y ≡ true → before_first test (xs ++ y ∷ ys) ≡ xs
passing_before test xs y ys h e = ap (λ (n : ℕ). take n (xs ++ y ∷ ys)) (passing_place test xs y ys h e) ∙ take_at xs (y ∷ ys) (length xs) refl

passing_after : (test : ℕ → Bool) (xs : List ℕ) (y : ℕ) (ys : List ℕ) → Fails test xs → test y ≡ true → after_first test (xs ++ y ∷ ys) ≡ ys
passing_after test xs y ys h e =
    let long : length (xs ++ y ∷ []) ≡ length xs + 1 = length-append xs (y ∷ []) in
    ap (λ (n : ℕ). drop (n + 1) (xs ++ y ∷ ys)) (passing_place test xs y ys h e) ∙ ap (λ (bs : List ℕ). drop (length xs + 1) bs) (sym (append_assoc xs (y ∷ []) ys)) ∙ drop_at (xs ++ y ∷ []) ys (length xs + 1) long

passing_any : (test : ℕ → Bool) (xs : List ℕ) (y : ℕ) (ys : List ℕ) → Fails test xs → test y ≡ true → list_any test (xs ++ y ∷ ys) ≡ true
passing_any test xs y ys h e =
    list_any-is test (xs ++ y ∷ ys) ∙ lt-ltb _ _ (omega (arith, passing_place test xs y ys h e, length-append xs (y ∷ ys)))

failing_place : (test : ℕ → Bool) (xs : List ℕ) → Fails test xs → position_or_len test xs ≡ length xs
failing_place test xs h = position_or_len_is test xs (length xs) 0 (omega arith) (λ k lt. All-get_or (λ b. test b ≡ false) xs k 0 lt h) (λ lt. absurd (omega arith))

-- ---- a spelling has its parts

fraction_before : (before : List ℕ) (after : Option (List ℕ)) → AreDigits before → before_first is_point (before ++ fraction_text after) ≡ before
fraction_before before None d =
    let f = digits_fail is_point before (λ c e. (digit_plain c e).1) d in
    ap (λ (bs : List ℕ). before_first is_point bs) (append-nil before) ∙ sym (none_before is_point before (failing_place is_point before f))
fraction_before before (Some ds) d = passing_before is_point before 46 ds (digits_fail is_point before (λ c e. (digit_plain c e).1) d) refl

fraction_after : (before : List ℕ) (after : Option (List ℕ)) → AreDigits before → after_first is_point (before ++ fraction_text after) ≡ digits_in after
fraction_after before None d =
    let f = digits_fail is_point before (λ c e. (digit_plain c e).1) d in
    ap (λ (bs : List ℕ). after_first is_point bs) (append-nil before) ∙ none_after is_point before (failing_place is_point before f)
fraction_after before (Some ds) d = passing_after is_point before 46 ds (digits_fail is_point before (λ c e. (digit_plain c e).1) d) refl

no_minus : (b : ℕ) → is_sign b ≡ false → eqb b 45 ≡ false
no_minus b e = grind (arith, nat_tests)

sign_off : (sign : Sign) (body : List ℕ) → Fails is_sign body → (unsigned (sign_text sign ++ body) ≡ body) × (is_negative (sign_text sign ++ body) ≡ is_minus sign)
sign_off bare [] h = (refl, refl)
sign_off bare (b ∷ bs) h =
    let e : is_sign b ≡ false = All-get_or (λ c. is_sign c ≡ false) (b ∷ bs) 0 0 (omega arith) h in
    (ap (λ (x : Bool). cond x bs (b ∷ bs)) e, no_minus b e)
sign_off plus body h = (refl, refl)
sign_off minus body h = (refl, refl)

abbrev parts_made : Bool → List ℕ → List ℕ → Bool → Option (List ℕ) → Parts
parts_made n x y h z = record { negative = n; before = x; after = y; shrinks = h; exponent = z }

same_parts : (n n' : Bool) (x x' y y' : List ℕ) (h h' : Bool) (z z' : Option (List ℕ)) → n ≡ n' → x ≡ x' → y ≡ y' → h ≡ h' → z ≡ z' → parts_made n x y h z ≡ parts_made n' x' y' h' z'
same_parts n n' x x' y y' h h' z z' a b c d e = cc

-- what stands round the mark decides the parts
parts_by : (field front back : List ℕ) (marked : Bool) → before_first is_mark field ≡ front → after_first is_mark field ≡ back → list_any is_mark field ≡ marked
    → parts_of field ≡ parts_made (is_negative front) (before_first is_point (unsigned front)) (after_first is_point (unsigned front)) (is_negative back) (cond marked (Some (unsigned back)) None)
unfolding parts_of
parts_by field front back marked f b m =
    same_parts _ _ _ _ _ _ _ _ _ _ (ap is_negative f) (ap (λ (bs : List ℕ). before_first is_point (unsigned bs)) f) (ap (λ (bs : List ℕ). after_first is_point (unsigned bs)) f) (ap is_negative b)
    (ap (λ (x : Bool). cond x (Some (unsigned (after_first is_mark field))) None) m ∙ ap (λ (bs : List ℕ). cond marked (Some (unsigned bs)) None) b)

front_fails : (s : Spelling) → IsDecimal s → Fails is_mark (sign_text s.sign ++ (s.before ++ fraction_text s.after))
front_fails s d =
    All-append (λ b. is_mark b ≡ false) (sign_text s.sign) (s.before ++ fraction_text s.after) (sign_fails s.sign)
    (All-append (λ b. is_mark b ≡ false) s.before (fraction_text s.after) (digits_fail is_mark s.before (λ c e. (digit_plain c e).0) d.before) (fraction_fails is_mark s.after (λ c e. (digit_plain c e).0) refl d.after))

body_fails : (s : Spelling) → IsDecimal s → Fails is_sign (s.before ++ fraction_text s.after)
body_fails s d =
    All-append (λ b. is_sign b ≡ false) s.before (fraction_text s.after) (digits_fail is_sign s.before (λ c e. (digit_plain c e).2) d.before) (fraction_fails is_sign s.after (λ c e. (digit_plain c e).2) refl d.after)

-- what stands before the mark, where the exponent has these parts
parts_front : (s : Spelling) (h shrinks : Bool) (z exponent : Option (List ℕ)) → IsDecimal s → h ≡ shrinks → z ≡ exponent →
    let front = sign_text s.sign ++ (s.before ++ fraction_text s.after) in
    parts_made (is_negative front) (before_first is_point (unsigned front)) (after_first is_point (unsigned front)) h z ≡ parts_made (is_minus s.sign) s.before (digits_in s.after) shrinks exponent
parts_front s h shrinks z exponent d e f =
    let off = sign_off s.sign (s.before ++ fraction_text s.after) (body_fails s d) in
    same_parts _ _ _ _ _ _ _ _ _ _ off.1 (ap (λ (bs : List ℕ). before_first is_point bs) off.0 ∙ fraction_before s.before s.after d.before) (ap (λ (bs : List ℕ). after_first is_point bs) off.0 ∙ fraction_after s.before s.after d.before) e f

parts_whole : (s : Spelling) (exponent : Option Exponent) → IsExponent exponent → IsDecimal s → parts_of ((sign_text s.sign ++ (s.before ++ fraction_text s.after)) ++ exponent_text exponent) ≡ with_exponent (is_minus s.sign) s.before (digits_in s.after) exponent
parts_whole s None is d =
    let front = sign_text s.sign ++ (s.before ++ fraction_text s.after) in
    let at = failing_place is_mark front (front_fails s d) in
    ap parts_of (append-nil front) ∙ parts_by front front [] false (sym (none_before is_mark front at)) (none_after is_mark front at) (none_any is_mark front at) ∙ parts_front s false false None None d refl refl
parts_whole s (Some w) is d =
    let front = sign_text s.sign ++ (s.before ++ fraction_text s.after) in
    let fails = front_fails s d in
    let back = sign_text w.sign ++ w.digits in
    let off = sign_off w.sign w.digits (digits_fail is_sign w.digits (λ c e. (digit_plain c e).2) is.digits) in
    parts_by (front ++ w.mark ∷ back) front back true (passing_before is_mark front w.mark back fails is.mark) (passing_after is_mark front w.mark back fails is.mark) (passing_any is_mark front w.mark back fails is.mark)
    ∙ parts_front s (is_negative back) (is_minus w.sign) (Some (unsigned back)) (Some w.digits) d off.1 (ap (λ (bs : List ℕ). Some bs) off.0)

pub parts-spelled : (s : Spelling) → IsDecimal s → parts_of (spelled s) ≡ parts s
parts-spelled s d = parts_whole s s.exponent d.exponent d

digits_are : (ds : List ℕ) → list_all is_ascii_digit ds ≡ true → 0 < length ds → are_digits ds ≡ true
digits_are ds e some = rw (e, lt-ltb 0 (length ds) some) refl

decimal_by : (negative : Bool) (before after : List ℕ) (exponent : Option Exponent) → are_digits (before ++ after) ≡ true → IsExponent exponent → is_decimal (with_exponent negative before after exponent) ≡ true
decimal_by negative before after None e p = rw e refl
decimal_by negative before after (Some w) e p = rw (e, digits_are w.digits p.digits p.some) refl

is_decimal-parts : (s : Spelling) → IsDecimal s → is_decimal (parts s) ≡ true
is_decimal-parts s d =
    decimal_by (is_minus s.sign) s.before (digits_in s.after) s.exponent
    (digits_are (s.before ++ digits_in s.after) (list_all-append is_ascii_digit s.before (digits_in s.after) ∙ rw (d.before, d.after) refl) (omega (arith, d.some, length-append s.before (digits_in s.after)))) d.exponent

-- what is spelled as a decimal is measured by its parts
pub decimal_of-spelled : (s : Spelling) → IsDecimal s → decimal_of (spelled s) ≡ measured (parts s)
decimal_of-spelled s d =
    ap judged (parts-spelled s d) ∙ ap (λ (b : Bool). cond b (measured (parts s)) (Err Form)) (is_decimal-parts s d)

no_form : (a b : Bool) (z : ℤ) → cond a (Err TooLong) (cond b (Err Range) (Ok z)) ≡ Err Form → ⊥
no_form true b z e = cc
no_form false true z e = cc
no_form false false z e = cc

pub form_not_spelled : (s : Spelling) → IsDecimal s → decimal_of (spelled s) ≡ Err Form → ⊥
form_not_spelled s d e =
    let p = parts s in
    no_form (is_too_long p) (ltb (10 ^ 14) (size p)) (signed p.negative (size p)) (sym (decimal_of-spelled s d) ∙ e)

-- ---- a field with the parts of a decimal is spelled so

sign_of : List ℕ → Sign
sign_of [] = bare
sign_of (b ∷ bs) = cond (eqb b 43) plus (cond (eqb b 45) minus bare)

signed_again : (bs : List ℕ) → sign_text (sign_of bs) ++ unsigned bs ≡ bs
unfolding sign_of
signed_again [] = refl
signed_again (b ∷ bs) =
    elim (cases_Bool (eqb b 43)) [
      | inl e ↦ subst (λ (x : ℕ). sign_text (sign_of (x ∷ bs)) ++ unsigned (x ∷ bs) ≡ x ∷ bs) (sym (eqb-true b 43 e)) refl
      | inr e ↦
          elim (cases_Bool (eqb b 45)) [
            | inl f ↦ subst (λ (x : ℕ). sign_text (sign_of (x ∷ bs)) ++ unsigned (x ∷ bs) ≡ x ∷ bs) (sym (eqb-true b 45 f)) refl
            | inr f ↦ rw (e, f) refl
          ]
    ]

-- where no byte passes, and where one does
split_none : (test : ℕ → Bool) (bs : List ℕ) → length bs ≤ position_or_len test bs → position_or_len test bs ≡ length bs
split_none test bs le =
    let most : position_or_len test bs ≤ length bs = prefix_len-le-length (λ b. not (test b)) bs in
    omega arith

fraction_again : (body : List ℕ) → (after : Option (List ℕ)) × (body ≡ before_first is_point body ++ fraction_text after) × (after_first is_point body ≡ digits_in after)
fraction_again body =
    elim (cases_lt (position_or_len is_point body) (length body)) [
      | inl lt ↦ (
        Some (after_first is_point body),
        split_at_first is_point body 0 lt ∙ ap (λ (b : ℕ). before_first is_point body ++ b ∷ after_first is_point body) (eqb-true _ 46 (passes_at_first is_point body 0 lt)),
        refl,
      )
      | inr le ↦
          let at = split_none is_point body le in
          (None, none_before is_point body at ∙ sym (append-nil (before_first is_point body)), none_after is_point body at)
    ]

exponent_again : (field : List ℕ) → is_exponent (parts_of field).exponent ≡ true → (exponent : Option Exponent) × IsExponent exponent × (field ≡ before_first is_mark field ++ exponent_text exponent)
unfolding parts_of
exponent_again field h =
    elim (cases_lt (position_or_len is_mark field) (length field)) [
      | inl lt ↦
          let back = after_first is_mark field in
          let any = some_any is_mark field (position_or_len is_mark field) (refl, lt) in
          let digits : are_digits (unsigned back) ≡ true = ap (λ (b : Bool). is_exponent (cond b (Some (unsigned back)) None)) (sym any) ∙ h in
          let tests = both (list_all is_ascii_digit (unsigned back)) (ltb 0 (length (unsigned back))) digits in
          let exponent : Exponent = record { mark = get_or field (position_or_len is_mark field) 0; sign = sign_of back; digits = unsigned back } in (
            Some exponent,
            record { mark = passes_at_first is_mark field 0 lt; digits = tests.0; some = ltb-true 0 (length (unsigned back)) tests.1 },
            split_at_first is_mark field 0 lt ∙ ap (λ (bs : List ℕ). before_first is_mark field ++ get_or field (position_or_len is_mark field) 0 ∷ bs) (sym (signed_again back)),
          )
      | inr le ↦ let at = split_none is_mark field le in (None, tt, none_before is_mark field at ∙ sym (append-nil (before_first is_mark field)))
    ]

some_digits : (bs : List ℕ) → are_digits bs ≡ true → 0 < length bs
some_digits bs e = ltb-true 0 (length bs) (both (list_all is_ascii_digit bs) (ltb 0 (length bs)) e).1

-- a field with the parts of a decimal is spelled as one
pub is_spelled : (field : List ℕ) → is_decimal (parts_of field) ≡ true → (s : Spelling) × IsDecimal s × (field ≡ spelled s)
unfolding parts_of
is_spelled field e =
    let front = before_first is_mark field in
    let body = unsigned front in
    let digits = decimal_digits (parts_of field) e in
    let f = fraction_again body in
    let x = exponent_again field digits.2 in
    let long = some_digits (before_first is_point body ++ after_first is_point body) (both (are_digits (before_first is_point body ++ after_first is_point body)) (is_exponent (parts_of field).exponent) e).0 in
    let some : 0 < length (before_first is_point body) + length (digits_in f.0) = omega (arith, long, length-append (before_first is_point body) (after_first is_point body), ap (λ (bs : List ℕ). length bs) f.2) in (
      record { sign = sign_of front; before = before_first is_point body; after = f.0; exponent = x.0 },
      record { before = digits.0; after = ap (λ (bs : List ℕ). list_all is_ascii_digit bs) (sym f.2) ∙ digits.1; some = some; exponent = x.1 },
      x.2 ∙ ap (λ (bs : List ℕ). bs ++ exponent_text x.0) (sym (signed_again front) ∙ ap (λ (bs : List ℕ). sign_text (sign_of front) ++ bs) f.1),
    )

form_by : (field : List ℕ) (b : Bool) → is_decimal (parts_of field) ≡ b → ((s : Spelling) → IsDecimal s → field ≡ spelled s → ⊥) → decimal_of field ≡ Err Form
form_by field true e none = let s = is_spelled field e in absurd (none s.0 s.1 s.2)
form_by field false e none = ap (λ (b : Bool). cond b (measured (parts_of field)) (Err Form)) e

pub form_not_decimal : (field : List ℕ) → ((s : Spelling) → IsDecimal s → field ≡ spelled s → ⊥) → decimal_of field ≡ Err Form
form_not_decimal field none = form_by field (is_decimal (parts_of field)) refl none
