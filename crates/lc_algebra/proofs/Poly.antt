-- Polynomials over ℤ: expressions, a normal form that computes, and that it keeps the value. `ring` proves an identity.
use Rattle.std.proofs.Common.{◌≡◌, ℕ, zero, suc, ℤ, pos, negsuc, ◌+ℤ◌, ◌-ℤ◌, ◌*ℤ◌, neg_ℤ, ◌≤ℤ◌, List, [], ◌∷◌, Bool, true, false, ◌&&◌, refl, sym, ap, ap₂, ◌∙◌, arith}
use Rattle.std.proofs.lemmas.Int.{ints}
use Rattle.lc_algebra.proofs.Ring.{mul-add_ℤ, mul_assoc_ℤ, add-mul_ℤ}
use Rattle.std.proofs.Math.IntN.{*ℤ_comm, +ℤ_assoc, +ℤ_idr, +ℤ_idl, zero-*ℤ, *ℤ-zero}

-- ---- expressions
pub data Expression : Type 0 where
  var : ℕ → Expression
  con : ℤ → Expression
  add : Expression → Expression → Expression
  mul : Expression → Expression → Expression
  sub : Expression → Expression → Expression
  neg : Expression → Expression

abbrev pub variable_at : List ℤ → ℕ → ℤ
variable_at [] n = pos 0
variable_at (x ∷ xs) zero = x
variable_at (x ∷ xs) (suc n) = variable_at xs n

abbrev pub value : List ℤ → Expression → ℤ
value r (var n) = variable_at r n
value r (con c) = c
value r (add a b) = value r a +ℤ value r b
value r (mul a b) = value r a *ℤ value r b
value r (sub a b) = value r a -ℤ value r b
value r (neg a) = neg_ℤ (value r a)

-- ---- polynomials: a constant, or p + x * q, where x is the first variable, p has only the later ones and q has all
pub data Polynomial : Type 0 where
  constant : ℤ → Polynomial
  horner : Polynomial → Polynomial → Polynomial

abbrev first : List ℤ → ℤ
first [] = pos 0
first (x ∷ xs) = x

abbrev rest : List ℤ → List ℤ
rest [] = []
rest (x ∷ xs) = xs

evaluate : Polynomial → List ℤ → ℤ
evaluate (constant c) r = c
evaluate (horner p q) r = evaluate p (rest r) +ℤ first r *ℤ evaluate q r

-- the sum with a constant
plus_con : ℤ → Polynomial → Polynomial
plus_con c (constant d) = constant (c +ℤ d)
plus_con c (horner p q) = horner (plus_con c p) q

plus : Polynomial → Polynomial → Polynomial
plus (constant c) b = plus_con c b
plus (horner p q) (constant d) = horner (plus_con d p) q
plus (horner p q) (horner s t) = horner (plus p s) (plus q t)

scale_by : ℤ → Polynomial → Polynomial
scale_by c (constant d) = constant (c *ℤ d)
scale_by c (horner p q) = horner (scale_by c p) (scale_by c q)

scale : ℤ → Polynomial → Polynomial
scale (pos zero) b = constant (pos zero)
scale (pos (suc zero)) b = b
scale (pos (suc (suc n))) b = scale_by (pos (suc (suc n))) b
scale (negsuc n) b = scale_by (negsuc n) b

-- f is the product with a p that has only the later variables
under : (Polynomial → Polynomial) → Polynomial → Polynomial
under f (constant d) = horner (f (constant d)) (constant (pos zero))
under f (horner s t) = horner (f s) (under f t)

times : Polynomial → Polynomial → Polynomial
times (constant c) b = scale c b
times (horner p q) b = plus (under (λ s. times p s) b) (horner (constant (pos zero)) (times q b))

variable : ℕ → Polynomial
variable zero = horner (constant (pos zero)) (constant (pos 1))
variable (suc n) = horner (variable n) (constant (pos zero))

normal_form : Expression → Polynomial
normal_form (var n) = variable n
normal_form (con c) = constant c
normal_form (add a b) = plus (normal_form a) (normal_form b)
normal_form (mul a b) = times (normal_form a) (normal_form b)
normal_form (sub a b) = plus (normal_form a) (scale (negsuc zero) (normal_form b))
normal_form (neg a) = scale (negsuc zero) (normal_form a)

is_zero : Polynomial → Bool
is_zero (constant (pos zero)) = true
is_zero (constant (pos (suc n))) = false
is_zero (constant (negsuc n)) = false
is_zero (horner p q) = is_zero p && is_zero q

-- ---- each step keeps the value
turn1 : (d p q : ℤ) → d +ℤ p +ℤ q ≡ p +ℤ q +ℤ d
turn1 d p q = omega (arith, ints)

turn2 : (p s q t : ℤ) → (p +ℤ s) +ℤ (q +ℤ t) ≡ (p +ℤ q) +ℤ (s +ℤ t)
turn2 p s q t = omega (arith, ints)

-- x * (c * q) is c * (x * q)
swap_ℤ : (x c q : ℤ) → x *ℤ (c *ℤ q) ≡ c *ℤ (x *ℤ q)
swap_ℤ x c q = sym (mul_assoc_ℤ x c q) ∙ ap (λ t. t *ℤ q) (*ℤ_comm x c) ∙ mul_assoc_ℤ c x q

-- c * p + x * (c * q) is c * (p + x * q)
through : (c p x q : ℤ) → c *ℤ p +ℤ x *ℤ (c *ℤ q) ≡ c *ℤ (p +ℤ x *ℤ q)
through c p x q = ap (λ t. c *ℤ p +ℤ t) (swap_ℤ x c q) ∙ sym (mul-add_ℤ c p (x *ℤ q))

one-mul_ℤ : (a : ℤ) → pos 1 *ℤ a ≡ a
one-mul_ℤ a = omega (arith, ints)

mul-one_ℤ : (a : ℤ) → a *ℤ pos 1 ≡ a
mul-one_ℤ a = omega (arith, ints)

minus_one-mul : (a : ℤ) → negsuc 0 *ℤ a ≡ neg_ℤ a
minus_one-mul a = omega (arith, ints)

plus_con_is : (c : ℤ) (p : Polynomial) (r : List ℤ) → evaluate (plus_con c p) r ≡ c +ℤ evaluate p r
unfolding evaluate plus_con
plus_con_is c (constant d) r = refl
plus_con_is c (horner p q) r = ap (λ t. t +ℤ first r *ℤ evaluate q r) (plus_con_is c p (rest r)) ∙ +ℤ_assoc c (evaluate p (rest r)) (first r *ℤ evaluate q r)

plus_is : (a b : Polynomial) (r : List ℤ) → evaluate (plus a b) r ≡ evaluate a r +ℤ evaluate b r
unfolding evaluate plus
plus_is (constant c) b r = plus_con_is c b r
plus_is (horner p q) (constant d) r = ap (λ t. t +ℤ first r *ℤ evaluate q r) (plus_con_is d p (rest r)) ∙ turn1 d (evaluate p (rest r)) (first r *ℤ evaluate q r)
plus_is (horner p q) (horner s t) r =
    ap₂ (λ x y. x +ℤ first r *ℤ y) (plus_is p s (rest r)) (plus_is q t r)
    ∙ ap (λ y. evaluate p (rest r) +ℤ evaluate s (rest r) +ℤ y) (mul-add_ℤ (first r) (evaluate q r) (evaluate t r))
    ∙ turn2 (evaluate p (rest r)) (evaluate s (rest r)) (first r *ℤ evaluate q r) (first r *ℤ evaluate t r)

scale_by_is : (c : ℤ) (p : Polynomial) (r : List ℤ) → evaluate (scale_by c p) r ≡ c *ℤ evaluate p r
unfolding evaluate scale_by
scale_by_is c (constant d) r = refl
scale_by_is c (horner p q) r = ap₂ (λ x y. x +ℤ first r *ℤ y) (scale_by_is c p (rest r)) (scale_by_is c q r) ∙ through c (evaluate p (rest r)) (first r) (evaluate q r)

scale_is : (c : ℤ) (p : Polynomial) (r : List ℤ) → evaluate (scale c p) r ≡ c *ℤ evaluate p r
unfolding evaluate scale
scale_is (pos zero) p r = sym (zero-*ℤ (evaluate p r))
scale_is (pos (suc zero)) p r = sym (one-mul_ℤ (evaluate p r))
scale_is (pos (suc (suc n))) p r = scale_by_is (pos (suc (suc n))) p r
scale_is (negsuc n) p r = scale_by_is (negsuc n) p r

under_is : (f : Polynomial → Polynomial) (v : ℤ) (r : List ℤ) → ((s : Polynomial) → evaluate (f s) (rest r) ≡ v *ℤ evaluate s (rest r)) → (b : Polynomial) → evaluate (under f b) r ≡ v *ℤ evaluate b r
unfolding evaluate under
under_is f v r h (constant d) = ap (λ t. evaluate (f (constant d)) (rest r) +ℤ t) (*ℤ-zero (first r)) ∙ +ℤ_idr (evaluate (f (constant d)) (rest r)) ∙ h (constant d)
under_is f v r h (horner s t) = ap₂ (λ x y. x +ℤ first r *ℤ y) (h s) (under_is f v r h t) ∙ through v (evaluate s (rest r)) (first r) (evaluate t r)

times_is : (a b : Polynomial) (r : List ℤ) → evaluate (times a b) r ≡ evaluate a r *ℤ evaluate b r
unfolding evaluate times
times_is (constant c) b r = scale_is c b r
times_is (horner p q) b r =
    plus_is (under (λ s. times p s) b) (horner (constant (pos zero)) (times q b)) r
    ∙ ap₂ (λ x y. x +ℤ (pos 0 +ℤ first r *ℤ y)) (under_is (λ s. times p s) (evaluate p (rest r)) r (λ s. times_is p s (rest r)) b) (times_is q b r)
    ∙ ap (λ y. evaluate p (rest r) *ℤ evaluate b r +ℤ y) (+ℤ_idl (first r *ℤ (evaluate q r *ℤ evaluate b r)) ∙ sym (mul_assoc_ℤ (first r) (evaluate q r) (evaluate b r)))
    ∙ sym (add-mul_ℤ (evaluate p (rest r)) (first r *ℤ evaluate q r) (evaluate b r))

variable_is : (n : ℕ) (r : List ℤ) → evaluate (variable n) r ≡ variable_at r n
unfolding evaluate variable
variable_is zero [] = refl
variable_is zero (x ∷ xs) = +ℤ_idl (x *ℤ pos 1) ∙ mul-one_ℤ x
variable_is (suc n) [] = +ℤ_idr (evaluate (variable n) []) ∙ variable_is n [] ∙ past n
  where
    past : (n : ℕ) → variable_at [] n ≡ pos 0
    past zero = refl
    past (suc n) = refl
variable_is (suc n) (x ∷ xs) = ap (λ t. evaluate (variable n) xs +ℤ t) (*ℤ-zero x) ∙ +ℤ_idr (evaluate (variable n) xs) ∙ variable_is n xs

normal_form_is : (e : Expression) (r : List ℤ) → evaluate (normal_form e) r ≡ value r e
unfolding evaluate normal_form
normal_form_is (var n) r = variable_is n r
normal_form_is (con c) r = refl
normal_form_is (add a b) r = plus_is (normal_form a) (normal_form b) r ∙ ap₂ (λ x y. x +ℤ y) (normal_form_is a r) (normal_form_is b r)
normal_form_is (mul a b) r = times_is (normal_form a) (normal_form b) r ∙ ap₂ (λ x y. x *ℤ y) (normal_form_is a r) (normal_form_is b r)
normal_form_is (sub a b) r = plus_is (normal_form a) (scale (negsuc zero) (normal_form b)) r ∙ ap₂ (λ x y. x +ℤ y) (normal_form_is a r) (scale_is (negsuc zero) (normal_form b) r ∙ ap (λ x. negsuc 0 *ℤ x) (normal_form_is b r) ∙ minus_one-mul (value r b))
normal_form_is (neg a) r = scale_is (negsuc zero) (normal_form a) r ∙ ap (λ x. negsuc 0 *ℤ x) (normal_form_is a r) ∙ minus_one-mul (value r a)

both : (a b : Bool) → (a && b) ≡ true → (a ≡ true) × (b ≡ true)
both true b e = (refl, e)
both false b e = cc

zero_is : (p : Polynomial) (r : List ℤ) → is_zero p ≡ true → evaluate p r ≡ pos 0
unfolding evaluate is_zero
zero_is (constant (pos zero)) r e = refl
zero_is (constant (pos (suc n))) r e = cc
zero_is (constant (negsuc n)) r e = cc
zero_is (horner p q) r e = let h = both (is_zero p) (is_zero q) e in
    ap₂ (λ x y. x +ℤ first r *ℤ y) (zero_is p (rest r) h.0) (zero_is q r h.1) ∙ ap (λ t. pos 0 +ℤ t) (*ℤ-zero (first r))

unfoldable pub same : Expression → Expression → Bool
unfolding evaluate plus_con plus scale_by scale under times variable normal_form is_zero
same a b = is_zero (normal_form (sub a b))

difference : (x y : ℤ) → x -ℤ y ≡ pos 0 → x ≡ y
difference x y h = omega (arith, ints)

pub ring : (r : List ℤ) (a b : Expression) → same a b ≡ true → value r a ≡ value r b
unfolding same
ring r a b e = difference (value r a) (value r b) (sym (normal_form_is (sub a b) r) ∙ zero_is (normal_form (sub a b)) r e)

-- ---- writing expressions
infixl 6 ◌⊕◌
abbrev pub ◌⊕◌ : Expression → Expression → Expression
a ⊕ b = add a b

infixl 6 ◌⊖◌
abbrev pub ◌⊖◌ : Expression → Expression → Expression
a ⊖ b = sub a b

infixl 7 ◌⊗◌
abbrev pub ◌⊗◌ : Expression → Expression → Expression
a ⊗ b = mul a b

-- ---- from a fact to a fact
from_zero : (x y c l m : ℤ) → x -ℤ y ≡ c *ℤ (l -ℤ m) → l ≡ m → x ≡ y
from_zero x y c l m e h = difference x y (e ∙ ap (λ t. c *ℤ (t -ℤ m)) h ∙ ap (λ t. c *ℤ t) (self_less m) ∙ *ℤ-zero c)
  where
    self_less : (m : ℤ) → m -ℤ m ≡ pos 0
    self_less m = omega (arith, ints)

-- a - b is c times what a known equation says is 0
pub ring_from : (r : List ℤ) (a b c l m : Expression) → same (sub a b) (mul c (sub l m)) ≡ true → value r l ≡ value r m → value r a ≡ value r b
ring_from r a b c l m e h = from_zero (value r a) (value r b) (value r c) (value r l) (value r m) (ring r (sub a b) (mul c (sub l m)) e) h

at_most : (x y d : ℤ) → y -ℤ x ≡ d → pos 0 ≤ℤ d → x ≤ℤ y
at_most x y d e h = omega (arith, ints)

-- b - a is d, which is not negative
pub ring_le : (r : List ℤ) (a b d : Expression) → same (sub b a) d ≡ true → pos 0 ≤ℤ value r d → value r a ≤ℤ value r b
ring_le r a b d e h = at_most (value r a) (value r b) (value r d) (ring r (sub b a) d e) h
