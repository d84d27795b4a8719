-- What code computes at a signed type: each operation's operands are read from their bits. Where each step fits, that is the value.
use Rattle.std.proofs.Common.{◌≡◌, ℕ, ◌^◌, ◌<◌, ℤ, ◌+ℤ◌, ◌-ℤ◌, ◌*ℤ◌, neg_ℤ, List, [], ◌∷◌, Bool, true, false, ◌&&◌, refl, sym, ap, ap₂, ◌∙◌, T, ltb, ltb→lt, FitsSigned, to_z, of_z, lt_of_le_of_lt, subst}
use Rattle.std.specs.Int.{Width}
use Rattle.std.specs.Int.RustNames.{unsigned_abs}
use mir.Val.{hbits}
use Rattle.std.proofs.lemmas.Int.{fits_signed_from_abs, to_z-of_z}
use Rattle.lc_algebra.proofs.Poly.{Expression, var, con, add, mul, sub, neg, value, variable_at}
use Rattle.lc_algebra.proofs.Within.{AreWithin, none, more, size, within}

abbrev pub read : Width → ℤ → ℤ
read w z = to_z w (of_z w z)

pub read_small : (w : Width) (z : ℤ) → unsigned_abs z < 2 ^ hbits w → read w z ≡ z
read_small w z h = to_z-of_z w z (fits_signed_from_abs w z h)

-- the value of the last operation, before it is written
abbrev pub raw : Width → List ℤ → Expression → ℤ
raw w r (var n) = variable_at r n
raw w r (con c) = c
raw w r (add a b) = read w (raw w r a) +ℤ read w (raw w r b)
raw w r (mul a b) = read w (raw w r a) *ℤ read w (raw w r b)
raw w r (sub a b) = read w (raw w r a) -ℤ read w (raw w r b)
raw w r (neg a) = neg_ℤ (read w (raw w r a))

-- each step is below the limit
abbrev pub steps_below : ℕ → List ℕ → Expression → Bool
steps_below l ms (var n) = ltb (size ms (var n)) l
steps_below l ms (con c) = ltb (size ms (con c)) l
steps_below l ms (add a b) = ltb (size ms (add a b)) l && (steps_below l ms a && steps_below l ms b)
steps_below l ms (mul a b) = ltb (size ms (mul a b)) l && (steps_below l ms a && steps_below l ms b)
steps_below l ms (sub a b) = ltb (size ms (sub a b)) l && (steps_below l ms a && steps_below l ms b)
steps_below l ms (neg a) = ltb (size ms (neg a)) l && steps_below l ms a

two : (a b : Bool) → T (a && b) → T a × T b
two true b h = (tt, h)
two false b h = absurd h

module _ (w : Width) (r : List ℤ) (ms : List ℕ) (h : AreWithin r ms) where
  fits_value : (e : Expression) → T (ltb (size ms e) (2 ^ hbits w)) → FitsSigned w (value r e)
  fits_value e t = fits_signed_from_abs w (value r e) (lt_of_le_of_lt (within r ms h e) (ltb→lt _ _ t))

  top_fits : (e : Expression) → T (steps_below (2 ^ hbits w) ms e) → T (ltb (size ms e) (2 ^ hbits w))
  top_fits (var n) t = t
  top_fits (con c) t = t
  top_fits (add a b) t = (two _ _ t).0
  top_fits (mul a b) t = (two _ _ t).0
  top_fits (sub a b) t = (two _ _ t).0
  top_fits (neg a) t = (two _ _ t).0

  read_value : (e : Expression) → T (ltb (size ms e) (2 ^ hbits w)) → read w (value r e) ≡ value r e
  read_value e t = to_z-of_z w (value r e) (fits_value e t)

  raw_is : (e : Expression) → T (steps_below (2 ^ hbits w) ms e) → raw w r e ≡ value r e
  raw_is (var n) t = refl
  raw_is (con c) t = refl
  raw_is (add a b) t = let s = two _ _ (two _ _ t).1 in ap₂ (λ x y. read w x +ℤ read w y) (raw_is a s.0) (raw_is b s.1) ∙ ap₂ (λ x y. x +ℤ y) (read_value a (top_fits a s.0)) (read_value b (top_fits b s.1))
  raw_is (mul a b) t = let s = two _ _ (two _ _ t).1 in ap₂ (λ x y. read w x *ℤ read w y) (raw_is a s.0) (raw_is b s.1) ∙ ap₂ (λ x y. x *ℤ y) (read_value a (top_fits a s.0)) (read_value b (top_fits b s.1))
  raw_is (sub a b) t = let s = two _ _ (two _ _ t).1 in ap₂ (λ x y. read w x -ℤ read w y) (raw_is a s.0) (raw_is b s.1) ∙ ap₂ (λ x y. x -ℤ y) (read_value a (top_fits a s.0)) (read_value b (top_fits b s.1))
  raw_is (neg a) t = let s = (two _ _ t).1 in ap (λ x. neg_ℤ (read w x)) (raw_is a s) ∙ ap neg_ℤ (read_value a (top_fits a s))

  -- an operation does not overflow
  pub fits_step : (e : Expression) → T (steps_below (2 ^ hbits w) ms e) → FitsSigned w (raw w r e)
  fits_step e t = subst (FitsSigned w) (sym (raw_is e t)) (fits_value e (top_fits e t))

  -- what the code gives is the value
  pub gives : (e : Expression) → T (steps_below (2 ^ hbits w) ms e) → read w (raw w r e) ≡ value r e
  gives e t = ap (read w) (raw_is e t) ∙ read_value e (top_fits e t)

-- ---- numbers that are widened first, as by `x as i128`
abbrev pub readings : Width → List ℤ → List ℤ
readings v [] = []
readings v (x ∷ xs) = read v x ∷ readings v xs

abbrev pub all_below : ℕ → List ℕ → Bool
all_below l [] = true
all_below l (m ∷ ms) = ltb m l && all_below l ms

readings-are : (v : Width) (r : List ℤ) (ms : List ℕ) → AreWithin r ms → T (all_below (2 ^ hbits v) ms) → readings v r ≡ r
readings-are v [] [] none t = refl
readings-are v (x ∷ xs) (m ∷ ms) (more h hs) t =
    let s = two _ _ t in
    ap₂ (λ y ys. y ∷ ys) (to_z-of_z v x (fits_signed_from_abs v x (lt_of_le_of_lt h (ltb→lt _ _ s.0)))) (readings-are v xs ms hs s.1)
readings-are v [] (m ∷ ms) h t = elim h [ ]
readings-are v (x ∷ xs) [] h t = elim h [ ]

module _ (v w : Width) (r : List ℤ) (ms : List ℕ) (h : AreWithin r ms) (t : T (all_below (2 ^ hbits v) ms)) where
  pub fits_wide : (e : Expression) → T (steps_below (2 ^ hbits w) ms e) → FitsSigned w (raw w (readings v r) e)
  fits_wide e s = subst (λ xs. FitsSigned w (raw w xs e)) (sym (readings-are v r ms h t)) (fits_step w r ms h e s)

  pub gives_wide : (e : Expression) → T (steps_below (2 ^ hbits w) ms e) → read w (raw w (readings v r) e) ≡ value r e
  gives_wide e s = subst (λ xs. read w (raw w xs e) ≡ value r e) (sym (readings-are v r ms h t)) (gives w r ms h e s)
