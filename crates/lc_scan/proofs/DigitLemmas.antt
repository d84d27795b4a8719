-- The first byte that passes, and digits read one by one.
use Rattle.std.proofs.Common.{◌≡◌, ℕ, ◌+◌, ◌-◌, ◌*◌, ◌^◌, ◌<◌, ◌≤◌, Bool, true, false, cond, not, ltb, ◌&&◌, ◌||◌, zero, suc, List, [], ◌∷◌, ◌++◌, length, get_or, take, drop, min, Some, None, refl, sym, ap, ◌∙◌, arith, inl, inr}
use Rattle.std.specs.Prelude.{position}
use Rattle.std.specs.List.{list_all, list_any, before_first, after_first, position_or_len}
use Rattle.std.specs.Char.{is_ascii_digit, digit_value}
use Rattle.std.specs.Str.Parse.{digits_value_after}
use Rattle.std.proofs.lemmas.List.{take_more, take_all, drop_all, take_rest}
use Rattle.std.proofs.lemmas.List.Sums.{prefix_len-le-length}
use Rattle.std.proofs.lemmas.Bool.{cases_lt, lt-ltb, le-ltb}
use Rattle.std.proofs.lemmas.Bool.Decides.{nat_tests}
use Rattle.std.proofs.Math.Nat.{pow-suc, pow-le-pow_right}

-- ---- the first byte that passes

pub place_none : (test : ℕ → Bool) (bytes : List ℕ) → position test bytes ≡ None → position_or_len test bytes ≡ length bytes
place_none test bytes e =
    elim (cases_lt (position_or_len test bytes) (length bytes)) [
      | inl lt ↦ let some : position test bytes ≡ Some (position_or_len test bytes) = ap (λ (b : Bool). cond b (Some (position_or_len test bytes)) None) (lt-ltb _ _ lt) in absurd cc
      | inr le ↦ omega (arith, prefix_len-le-length (λ b. not (test b)) bytes)
    ]

pub place_some : (test : ℕ → Bool) (bytes : List ℕ) (k : ℕ) → position test bytes ≡ Some k → (position_or_len test bytes ≡ k) × (k < length bytes)
place_some test bytes k e =
    elim (cases_lt (position_or_len test bytes) (length bytes)) [
      | inl lt ↦
          let some : position test bytes ≡ Some (position_or_len test bytes) = ap (λ (b : Bool). cond b (Some (position_or_len test bytes)) None) (lt-ltb _ _ lt) in
          let same : position_or_len test bytes ≡ k = cc in
          (same, omega arith)
      | inr le ↦ let none : position test bytes ≡ None = ap (λ (b : Bool). cond b (Some (position_or_len test bytes)) None) (le-ltb _ _ le) in absurd cc
    ]

any_step : (x rest : Bool) (n m : ℕ) → rest ≡ ltb n m → (x || rest) ≡ ltb (cond (not x) (1 + n) 0) (suc m)
any_step true rest n m e = sym (lt-ltb 0 (suc m) (omega arith))
any_step false rest n m e =
    elim (cases_lt n m) [
      | inl lt ↦ e ∙ lt-ltb n m lt ∙ sym (lt-ltb (1 + n) (suc m) (omega arith))
      | inr le ↦ e ∙ le-ltb n m le ∙ sym (le-ltb (1 + n) (suc m) (omega arith))
    ]

pub list_any-is : (test : ℕ → Bool) (bytes : List ℕ) → list_any test bytes ≡ ltb (position_or_len test bytes) (length bytes)
list_any-is test [] = refl
list_any-is test (b ∷ bs) = any_step (test b) (list_any test bs) (position_or_len test bs) (length bs) (list_any-is test bs)

-- ---- digits

pub both : (a b : Bool) → (a && b) ≡ true → (a ≡ true) × (b ≡ true)
both true b e = (refl, e)
both false b e = absurd cc

-- the digit at each place
pub digit_at : (ds : List ℕ) (i : ℕ) → list_all is_ascii_digit ds ≡ true → i < length ds → is_ascii_digit (get_or ds i 0) ≡ true
digit_at [] i e lt = absurd (omega arith)
digit_at (d ∷ ds) zero e lt = (both (is_ascii_digit d) (list_all is_ascii_digit ds) e).0
digit_at (d ∷ ds) (suc i) e lt = digit_at ds i (both (is_ascii_digit d) (list_all is_ascii_digit ds) e).1 (omega arith)

pub digit_is : (c : ℕ) → is_ascii_digit c ≡ true → (48 ≤ c) × (c ≤ 57) × (digit_value c ≡ c - 48)
digit_is c e = grind (arith, nat_tests)

pub after_push : (n : ℕ) (ds : List ℕ) (c : ℕ) → digits_value_after 10 n (ds ++ c ∷ []) ≡ digits_value_after 10 n ds * 10 + digit_value c
after_push n [] c = refl
after_push n (d ∷ ds) c = after_push (n * 10 + digit_value d) ds c

pub after_more : (n : ℕ) (ds : List ℕ) (i : ℕ) → i < length ds → digits_value_after 10 n (take (i + 1) ds) ≡ digits_value_after 10 n (take i ds) * 10 + digit_value (get_or ds i 0)
after_more n ds i lt = ap (digits_value_after 10 n) (take_more ds i 0 lt) ∙ after_push n (take i ds) (get_or ds i 0)

pub after_append : (n : ℕ) (xs ys : List ℕ) → digits_value_after 10 n (xs ++ ys) ≡ digits_value_after 10 (digits_value_after 10 n xs) ys
after_append n [] ys = refl
after_append n (x ∷ xs) ys = after_append (n * 10 + digit_value x) xs ys

-- one digit more stays below the power
pub room_for : (v room i n d : ℕ) → v < 10 ^ (room + i) → i < n → room + n ≤ 30 → d ≤ 9 → (v * 10 + d < 10 ^ (room + (i + 1))) × (v * 10 + d < 10 ^ 30)
room_for v room i n d small lt fits le =
    let more : 10 ^ (room + (i + 1)) ≡ 10 ^ (room + i) * 10 = ap (λ (k : ℕ). 10 ^ k) (omega arith) ∙ pow-suc 10 (room + i) in
    let up : 10 ^ (room + (i + 1)) ≤ 10 ^ 30 = pow-le-pow_right {n = 10} (omega arith) {i = room + (i + 1)} {j = 30} (omega arith) in
    (omega arith, omega arith)

pub capped : (v n d w : ℕ) → n ≡ min v 41 → w ≡ min (n * 10 + d) 41 → w ≡ min (v * 10 + d) 41
capped v n d w e f = omega arith

-- ---- the parts round the first byte that passes

pub none_before : (test : ℕ → Bool) (hay : List ℕ) → position_or_len test hay ≡ length hay → hay ≡ before_first test hay
none_before test hay e = sym (take_all (position_or_len test hay) hay (omega arith))

pub none_after : (test : ℕ → Bool) (hay : List ℕ) → position_or_len test hay ≡ length hay → after_first test hay ≡ []
none_after test hay e = drop_all (position_or_len test hay + 1) hay (omega arith)

pub none_any : (test : ℕ → Bool) (hay : List ℕ) → position_or_len test hay ≡ length hay → list_any test hay ≡ false
none_any test hay e = list_any-is test hay ∙ le-ltb _ _ (omega arith)

pub some_before : (test : ℕ → Bool) (hay : List ℕ) (k : ℕ) → (position_or_len test hay ≡ k) × (k < length hay) → take k hay ≡ before_first test hay
some_before test hay k p = ap (λ (n : ℕ). take n hay) (sym p.0)

pub some_after : (test : ℕ → Bool) (hay : List ℕ) (k : ℕ) → (position_or_len test hay ≡ k) × (k < length hay) → take (length hay - (k + 1)) (drop (k + 1) hay) ≡ after_first test hay
some_after test hay k p = take_rest hay (k + 1) ∙ ap (λ (n : ℕ). drop (n + 1) hay) (sym p.0)

pub some_any : (test : ℕ → Bool) (hay : List ℕ) (k : ℕ) → (position_or_len test hay ≡ k) × (k < length hay) → list_any test hay ≡ true
some_any test hay k p = list_any-is test hay ∙ lt-ltb _ _ (omega arith)
