-- A number's digits at the front of a text, and what follows them.
use Rattle.std.proofs.Common.{◌≡◌, ℕ, ◌+◌, ◌-◌, ◌*◌, ◌/◌, ◌%◌, ◌^◌, ◌<◌, ◌≤◌, Bool, true, false, cond, ltb, List, [], ◌∷◌, ◌++◌, length, decimal, refl, sym, ap, ◌∙◌, arith, append_assoc, inl, inr}
use Rattle.std.proofs.lemmas.Bool.{lt-ltb, le-ltb, cases_lt}
use Rattle.std.proofs.lemmas.Fmt.{decimal_by_steps_wide, decimal_step_wide, decimal_digit}
use Rattle.std.proofs.lemmas.List.{append_cancel_left}
use Rattle.lc_record.specs.Pieces.{ended}

-- the number that the digits up to the first other byte make, after those of v
pub value_on : ℕ → List ℕ → ℕ
value_on v [] = v
value_on v (b ∷ bs) = cond (ltb b 48) v (cond (ltb b 58) (value_on (v * 10 + (b - 48)) bs) v)

value_on-digit : (v d : ℕ) (bs : List ℕ) → d < 10 → value_on v ((48 + d) ∷ bs) ≡ value_on (v * 10 + d) bs
unfolding value_on
value_on-digit v d bs h =
    let low : ltb (48 + d) 48 ≡ false = le-ltb (48 + d) 48 (omega arith) in
    let high : ltb (48 + d) 58 ≡ true = lt-ltb (48 + d) 58 (omega arith) in
    let back : 48 + d - 48 ≡ d = omega arith in
    rw (low, high, back) refl

IsDigit : ℕ → Type 0
IsDigit b = (48 ≤ b) × (b < 58)

value_on-other : (v b : ℕ) (bs : List ℕ) → ((48 ≤ b) × (b < 58) → ⊥) → value_on v (b ∷ bs) ≡ v
unfolding value_on
value_on-other v b bs h =
    elim (cases_lt b 48) [
      | inl low ↦ rw (lt-ltb b 48 low) refl
      | inr le ↦ elim (cases_lt b 58) [
        | inl high ↦ absurd (h (le, high))
        | inr above ↦ rw (le-ltb b 48 le, le-ltb b 58 above) refl
      ]
    ]

grows_by : (v w : ℕ) (low high : Bool) → v ≤ w → v ≤ cond low v (cond high w v)
grows_by v w true high h = omega arith
grows_by v w false true h = h
grows_by v w false false h = omega arith

value_on-grows : (v : ℕ) (bs : List ℕ) → v ≤ value_on v bs
unfolding value_on
value_on-grows v [] = omega arith
value_on-grows v (b ∷ bs) =
    let more : v * 10 + (b - 48) ≤ value_on (v * 10 + (b - 48)) bs = value_on-grows (v * 10 + (b - 48)) bs in
    grows_by v (value_on (v * 10 + (b - 48)) bs) (ltb b 48) (ltb b 58) (omega arith)

-- a number's digits make the number
value_on-decimal : (n : ℕ) → n < 10 ^ 64 → (x : List ℕ) → value_on 0 (decimal n ++ x) ≡ value_on n x
value_on-decimal n small =
    decimal_by_steps_wide (λ n ds. (x : List ℕ) → value_on 0 (ds ++ x) ≡ value_on n x)
    (λ n one x. value_on-digit 0 n x one ∙ ap (λ (v : ℕ). value_on v x) {x = 0 * 10 + n} {y = n} (omega arith))
    (λ n ds ten before x.
    ap (λ (bs : List ℕ). value_on 0 bs) (append_assoc ds ((48 + n % 10) ∷ []) x)
    ∙ before ((48 + n % 10) ∷ x)
    ∙ value_on-digit (n / 10) (n % 10) x (omega arith)
    ∙ ap (λ (v : ℕ). value_on v x) {x = n / 10 * 10 + n % 10} {y = n} (omega arith))
    n small

-- a number that begins with a 0 is no more than that
record Starts (n : ℕ) (ds : List ℕ) : Type 0 where
  first : ℕ
  others : List ℕ
  is : ds ≡ (48 + first) ∷ others
  small : first < 10
  zero_alone : first ≡ 0 → (n ≡ 0) × (others ≡ [])

starts : (n : ℕ) → n < 10 ^ 64 → Starts n (decimal n)
starts n small =
    decimal_by_steps_wide (λ n ds. Starts n ds)
    (λ n one. record { first = n; others = []; is = refl; small = one; zero_alone = λ e. (e, refl) })
    (λ n ds ten before. record {
      first = before.first;
      others = before.others ++ (48 + n % 10) ∷ [];
      is = ap (λ (bs : List ℕ). bs ++ (48 + n % 10) ∷ []) before.is;
      small = before.small;
      zero_alone = λ e. absurd (let gone : n / 10 ≡ 0 = (before.zero_alone e).0 in omega arith);
    })
    n small

-- a text that begins with a number and a byte that ends it
pub record Holds (n end : ℕ) (after bytes : List ℕ) : Type 0 where
  pub small : n < 10 ^ 64
  pub stops : end < 48
  pub text : bytes ≡ decimal n ++ end ∷ after

pub holds : (n end : ℕ) (after bytes : List ℕ) → n < 2 ^ 120 → end < 48 → bytes ≡ ended end n ++ after → Holds n end after bytes
holds n end after bytes small stops e = record { small = omega arith; stops = stops; text = e ∙ append_assoc (decimal n) (end ∷ []) after }

module _ (n end : ℕ) (after bytes : List ℕ) (h : Holds n end after bytes) where
  value : value_on 0 bytes ≡ n
  value =
      ap (λ (bs : List ℕ). value_on 0 bs) h.text ∙ value_on-decimal n h.small (end ∷ after)
      ∙ value_on-other n end after (λ d. omega (arith, h.stops, d.0))

  -- it is the number that any digits at the front and what follows them make
  pub value_is : (v : ℕ) (x : List ℕ) → v < 10 ^ 64 → bytes ≡ decimal v ++ x → value_on v x ≡ n
  value_is v x small e = sym (value_on-decimal v small x) ∙ ap (λ (bs : List ℕ). value_on 0 bs) (sym e) ∙ value

  rest_is : (v : ℕ) (x : List ℕ) → bytes ≡ decimal v ++ x → v ≡ n → x ≡ end ∷ after
  rest_is v x e same =
      append_cancel_left (decimal n) x (end ∷ after) (ap (λ (m : ℕ). decimal m ++ x) (sym same) ∙ sym e ∙ h.text)

  pub not_less : (v : ℕ) (x : List ℕ) → v < 10 ^ 64 → bytes ≡ decimal v ++ x → v ≤ n
  not_less v x small e = let more = value_on-grows v x in omega (arith, more, value_is v x small e)

  -- another byte than a digit ends it
  pub ends_at : (v b : ℕ) (x : List ℕ) → v < 10 ^ 64 → bytes ≡ decimal v ++ b ∷ x → ((48 ≤ b) × (b < 58) → ⊥) → (v ≡ n) × (b ≡ end) × (x ≡ after)
  ends_at v b x small e other =
      let same : v ≡ n = sym (value_on-other v b x other) ∙ value_is v (b ∷ x) small e in
      let rest : b ∷ x ≡ end ∷ after = rest_is v (b ∷ x) e same in
      (same, cc, cc)

  -- and it does not end with the text
  pub no_end : (v : ℕ) (x : List ℕ) → v < 10 ^ 64 → length x ≡ 0 → bytes ≡ decimal v ++ x → ⊥
  unfolding value_on
  no_end v [] small none e = let rest : [] ≡ end ∷ after = rest_is v [] e (value_is v [] small e) in cc
  no_end v (b ∷ bs) small none e = omega arith

  pub first_digit : (b : ℕ) (x : List ℕ) → bytes ≡ b ∷ x → (48 ≤ b) × (b < 58)
  first_digit b x e =
      let s : Starts n (decimal n) = starts n h.small in
      let heads : b ∷ x ≡ (48 + s.first) ∷ (s.others ++ end ∷ after) = sym e ∙ h.text ∙ ap (λ (ds : List ℕ). ds ++ end ∷ after) s.is in
      let head : b ≡ 48 + s.first = cc in
      (omega (arith, head), omega (arith, head, s.small))

  -- no digit follows a 0 at the front
  pub no_leading_zero : (v d : ℕ) (x : List ℕ) → v ≡ 0 → bytes ≡ decimal v ++ (48 + d) ∷ x → ⊥
  no_leading_zero v d x nothing e =
      let s : Starts n (decimal n) = starts n h.small in
      let zeros : decimal v ++ (48 + d) ∷ x ≡ 48 ∷ (48 + d) ∷ x =
      ap (λ (m : ℕ). decimal m ++ (48 + d) ∷ x) nothing
      ∙ ap (λ (ds : List ℕ). ds ++ (48 + d) ∷ x) (decimal_digit 0 (omega arith)) in
      let heads : 48 ∷ (48 + d) ∷ x ≡ (48 + s.first) ∷ (s.others ++ end ∷ after) =
      sym zeros ∙ sym e ∙ h.text ∙ ap (λ (ds : List ℕ). ds ++ end ∷ after) s.is in
      let head : 48 ≡ 48 + s.first = cc in
      let alone : s.others ≡ [] = (s.zero_alone (omega (arith, head))).1 in
      let tails : (48 + d) ∷ x ≡ s.others ++ end ∷ after = cc in
      let next : (48 + d) ∷ x ≡ end ∷ after = tails ∙ ap (λ (ds : List ℕ). ds ++ end ∷ after) alone in
      let same : 48 + d ≡ end = cc in
      omega (arith, same, h.stops)

-- one digit more
pub longer : (v d : ℕ) (x : List ℕ) → d < 10 → 0 < v → v < 2 ^ 120 → decimal v ++ (48 + d) ∷ x ≡ decimal (v * 10 + d) ++ x
longer v d x small above below =
    let front : (v * 10 + d) / 10 ≡ v = omega arith in
    let last : (v * 10 + d) % 10 ≡ d = omega arith in
    let step : decimal (v * 10 + d) ≡ decimal v ++ (48 + d) ∷ [] =
    decimal_step_wide (v * 10 + d) (omega arith) (omega arith)
    ∙ ap (λ (m : ℕ). decimal m ++ (48 + (v * 10 + d) % 10) ∷ []) front
    ∙ ap (λ (m : ℕ). decimal v ++ (48 + m) ∷ []) last in
    sym (ap (λ (ds : List ℕ). ds ++ x) step ∙ append_assoc (decimal v) ((48 + d) ∷ []) x)
