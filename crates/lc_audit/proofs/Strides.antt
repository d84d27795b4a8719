-- The items of a list whose numbers a step divides.
use Rattle.std.proofs.Common.{◌≡◌, inl, inr, ℕ, zero, suc, ◌+◌, ◌*◌, ◌/◌, ◌%◌, ◌<◌, ◌≤◌, ◌≢◌, Bool, true, false, cond, List, [], ◌∷◌, ◌++◌, map, filter, take, get_or, length, refl, sym, ◌∙◌, ap, arith, append-nil}
use Rattle.std.specs.Prelude.{◌==◌}
use Rattle.std.specs.List.{range_with_len}
use Rattle.std.specs.Int.{div_ceil}
use Rattle.std.proofs.lemmas.Nat.{div-add-mod', div-mul-add, mod-mul-add, mod_below, mul-le}
use Rattle.std.proofs.lemmas.List.{take_all}
use Rattle.std.proofs.lemmas.List.Elements.{filter_more}
use Rattle.std.proofs.lemmas.List.FromFn.{map-range_with_len_more, length-map-range_with_len, get_or-map-range_with_len}
use Rattle.std.proofs.lemmas.Bool.{cases_lt, eqb-true, eqb-false}

-- ---- the quotient, rounded up

next_within : (n s q r : ℕ) → q * s + r ≡ n → r + 1 < s → ((n + 1) / s ≡ q) × ((n + 1) % s ≡ r + 1)
next_within n s q r e lt =
    let f : n + 1 ≡ q * s + (r + 1) = omega (arith, e) in
    (ap (λ k. k / s) f ∙ div-mul-add q s (r + 1) lt, ap (λ k. k % s) f ∙ mod-mul-add q s (r + 1) lt)

next_over : (n s q r : ℕ) → q * s + r ≡ n → r + 1 ≡ s → ((n + 1) / s ≡ q + 1) × ((n + 1) % s ≡ 0)
next_over n s q r e all =
    let f : n + 1 ≡ (q + 1) * s + 0 = omega (arith, e, all) in
    let lt : 0 < s = omega (arith, all) in
    (ap (λ k. k / s) f ∙ div-mul-add (q + 1) s 0 lt, ap (λ k. k % s) f ∙ mod-mul-add (q + 1) s 0 lt)

pub ceil_none : (s : ℕ) → 0 < s → div_ceil 0 s ≡ 0
ceil_none s some =
    let e : 0 ≡ 0 * s + 0 = omega arith in
    omega (arith, ap (λ k. k / s) e, div-mul-add 0 s 0 some, ap (λ k. k % s) e, mod-mul-add 0 s 0 some)

pub ceil_on : (n s : ℕ) → 0 < s → n % s ≡ 0 → div_ceil (n + 1) s ≡ div_ceil n s + 1
ceil_on n s some h =
    let e : n / s * s + 0 ≡ n = omega (arith, div-add-mod' n s, h) in
    elim (cases_lt (0 + 1) s) [
      | inl lt ↦ let t = next_within n s (n / s) 0 e lt in omega (arith, t.0, t.1, h)
      | inr le ↦ let t = next_over n s (n / s) 0 e (omega (arith, le, some)) in omega (arith, t.0, t.1, h)
    ]

pub ceil_at : (n s : ℕ) → n % s ≡ 0 → div_ceil n s * s ≡ n
ceil_at n s h =
    let e : div_ceil n s ≡ n / s = omega (arith, h) in
    ap (λ k. k * s) e ∙ omega (arith, div-add-mod' n s, h)

pub ceil_off : (n s : ℕ) → 0 < s → n % s ≢ 0 → div_ceil (n + 1) s ≡ div_ceil n s
ceil_off n s some h =
    elim (cases_lt (n % s + 1) s) [
      | inl lt ↦ let t = next_within n s (n / s) (n % s) (div-add-mod' n s) lt in omega (arith, t.0, t.1, h)
      | inr le ↦ let t = next_over n s (n / s) (n % s) (div-add-mod' n s) (omega (arith, le, mod_below n s some)) in omega (arith, t.0, t.1, h)
    ]

-- the multiples before it are below
pub ceil_below : (i n s : ℕ) → 0 < s → i < div_ceil n s → i * s < n
ceil_below i n s some h =
    elim (cases_lt i (n / s)) [
      | inl lt ↦ let m : (i + 1) * s ≤ n / s * s = mul-le (i + 1) s (n / s) s (omega (arith, lt)) (omega arith) in omega (arith, m, some, div-add-mod' n s)
      | inr le ↦ let m : i * s ≤ n / s * s = mul-le i s (n / s) s (omega (arith, h)) (omega arith) in omega (arith, m, h, le, div-add-mod' n s)
    ]

-- ---- a list of items that have their places as their numbers

module _ {X : Type 0} (number : X → ℕ) (xs : List X) (step : ℕ) (some : 0 < step) (d : X) (numbers : (k : ℕ) → k < length xs → number (get_or xs k d) ≡ k) where
  abbrev on : X → Bool
  on x = number x % step == 0

  -- the item of the multiple i of the step
  abbrev at : ℕ → X
  at i = get_or xs (i * step) d

  abbrev front : ℕ → List X
  front n = map at (range_with_len 0 (div_ceil n step))

  one_more : (n : ℕ) (b : Bool) → (n % step == 0) ≡ b → front n ++ cond b (get_or xs n d ∷ []) [] ≡ front (n + 1)
  one_more n true e =
      let h : n % step ≡ 0 = eqb-true (n % step) 0 e in
      ap (λ k. front n ++ (get_or xs k d ∷ [])) (sym (ceil_at n step h))
      ∙ sym (map-range_with_len_more at 0 (div_ceil n step) (div_ceil n step) (omega arith))
      ∙ ap (λ k. map at (range_with_len 0 k)) (sym (ceil_on n step some h))
  one_more n false e =
      append-nil (front n)
      ∙ ap (λ k. map at (range_with_len 0 k)) (sym (ceil_off n step some (eqb-false (n % step) 0 e)))

  fronts : (n : ℕ) → n ≤ length xs → filter on (take n xs) ≡ front n
  fronts zero h = ap (λ k. map at (range_with_len 0 k)) (sym (ceil_none step some))
  fronts (suc n) h =
      let e : suc n ≡ n + 1 = omega arith in
      let lt : n < length xs = omega (arith, h) in
      ap (λ k. filter on (take k xs)) e ∙ filter_more on xs n d lt
      ∙ ap (λ l. l ++ cond (on (get_or xs n d)) (get_or xs n d ∷ []) []) (fronts n (omega (arith, h)))
      ∙ ap (λ k. front n ++ cond (k % step == 0) (get_or xs n d ∷ []) []) (numbers n lt)
      ∙ one_more n (n % step == 0) refl
      ∙ ap front (sym e)

  pub strided : filter on xs ≡ front (length xs)
  strided = ap (filter on) (sym (take_all (length xs) xs (omega arith))) ∙ fronts (length xs) (omega arith)

  pub strided-length : length (filter on xs) ≡ div_ceil (length xs) step
  strided-length = ap length strided ∙ length-map-range_with_len at 0 (div_ceil (length xs) step)

  pub strided-get : (i : ℕ) → i < div_ceil (length xs) step → get_or (filter on xs) i d ≡ get_or xs (i * step) d
  strided-get i lt =
      ap (λ l. get_or l i d) strided ∙ get_or-map-range_with_len at 0 (div_ceil (length xs) step) i i d lt (omega arith)
