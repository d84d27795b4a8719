-- What the code of `near2`, `cos_top` and `emit_top` gives.
use Rattle.std.proofs.Common.{◌≡◌, ℕ, ◌+◌, ◌*◌, ◌/◌, ◌^◌, ◌<◌, ◌≤◌, true, false, arith, refl, ◌∙◌, ⊎_elim, ℤ, pos, negsuc, ◌+ℤ◌, ◌-ℤ◌, ◌*ℤ◌, [], ◌∷◌, FitsSigned}
use Rattle.std.specs.Int.RustNames.{unsigned_abs, int_le, int_lt}
use Rattle.std.specs.Int.{w64, int_min, int_max}
use Rattle.std.proofs.lemmas.Int.{to_z-of_z, unsigned_abs-mul}
use Rattle.std.proofs.lemmas.Bool.{cases_lt}
use Rattle.std.proofs.lemmas.Bool.Decides.{nat_tests}
use Rattle.lc_algebra.specs.Roots.{isqrt, ratio_root}
use Rattle.lc_algebra.proofs.Roots.{isqrt-of_quotient, ratio_root-greatest, ratio_root-at_most}
use Rattle.lc_algebra.proofs.Poly.{var, ◌⊕◌}
use Rattle.lc_algebra.proofs.Within.{none, more}
use Rattle.lc_algebra.proofs.Machine.{read, read_small, gives}
use Rattle.lc_num.specs.Vectors.{Within, difference}
use Rattle.lc_num.specs.Cosines.{cosine_at_most}
use Rattle.lc_num.specs.Boxes.{IsBoxWithin, nearest, near2, greatest_dot, greatest_product, greatest_dot_of_boxes}
use Rattle.lc_num.specs.declared.vectors.Vec3.{Vec3}
use Rattle.lc_num.proofs.SquareLemmas.{square-is}
use Rattle.lc_num.proofs.BoxLemmas.{greatest_product-small}
use Rattle.lc_num.proofs.ExtremeLemmas.{max_small}
use Rattle.lc_num.proofs.CosineLemmas.{not_positive}
use Rattle.lc_num.proofs.ScaledLemmas.{eqb_no}

-- what `gap` answers, as its caller knows it
gap_read : (x lo hi : ℤ) (r : ℕ) → unsigned_abs x ≤ 50_100_000 → unsigned_abs lo ≤ 50_100_000 → unsigned_abs hi ≤ 50_100_000
    → r ≡ unsigned_abs (int_max (read w64 lo) (int_min (read w64 x) (read w64 hi)) -ℤ read w64 x)
    → r ≡ unsigned_abs (int_max lo (int_min x hi) -ℤ x)
gap_read x lo hi r hx hlo hhi e = rw (read_small w64 x (omega arith), read_small w64 lo (omega arith), read_small w64 hi (omega arith)) at e

pub near_code : (x lo hi : Vec3) (a b c : ℕ) → Within 50_100_000 x → IsBoxWithin 50_100_000 (record { lo = lo; hi = hi })
    → a ≡ unsigned_abs (int_max (read w64 lo.x) (int_min (read w64 x.x) (read w64 hi.x)) -ℤ read w64 x.x)
    → b ≡ unsigned_abs (int_max (read w64 lo.y) (int_min (read w64 x.y) (read w64 hi.y)) -ℤ read w64 x.y)
    → c ≡ unsigned_abs (int_max (read w64 lo.z) (int_min (read w64 x.z) (read w64 hi.z)) -ℤ read w64 x.z)
    → a * a + b * b + c * c ≡ near2 x (record { lo = lo; hi = hi })
unfolding near2
near_code x lo hi a b c hx hb ea eb ec =
    let ra = gap_read x.x lo.x hi.x a hx.x hb.lo.x hb.hi.x ea in
    let rb = gap_read x.y lo.y hi.y b hx.y hb.lo.y hb.hi.y eb in
    let rc = gap_read x.z lo.z hi.z c hx.z hb.lo.z hb.hi.z ec in
    let whole = square-is (difference (nearest x (record { lo = lo; hi = hi })) x) in
    cc

-- ---- the greatest dot product

pub product_small : (a b : ℤ) (m : ℕ) → m < 2 ^ 63 → unsigned_abs a * unsigned_abs b ≤ m → read w64 (a *ℤ b) ≡ a *ℤ b
product_small a b m limit small = read_small w64 (a *ℤ b) (rw unsigned_abs-mul (omega arith))

-- the code of `greater_product` gives the greater of the two
pub greater_is : (n lo hi r : ℤ) → FitsSigned w64 n → FitsSigned w64 lo → FitsSigned w64 hi → FitsSigned w64 r
    → unsigned_abs n * unsigned_abs lo ≤ 16384 * 100_100_000 → unsigned_abs n * unsigned_abs hi ≤ 16384 * 100_100_000
    → r ≡ int_max (read w64 (read w64 n *ℤ read w64 lo)) (read w64 (read w64 n *ℤ read w64 hi))
    → read w64 r ≡ int_max (n *ℤ lo) (n *ℤ hi)
greater_is n lo hi r fn fl fh fr low high e =
    to_z-of_z w64 r fr
    ∙ rw (to_z-of_z w64 n fn, to_z-of_z w64 lo fl, to_z-of_z w64 hi fh, product_small n lo (16384 * 100_100_000) (omega arith) low, product_small n hi (16384 * 100_100_000) (omega arith) high) at e

pub max_read : (n lo hi r : ℤ) → FitsSigned w64 n → FitsSigned w64 lo → FitsSigned w64 hi → r ≡ int_max (read w64 n *ℤ read w64 lo) (read w64 n *ℤ read w64 hi) → r ≡ int_max (n *ℤ lo) (n *ℤ hi)
max_read n lo hi r fn fl fh e = rw (to_z-of_z w64 n fn, to_z-of_z w64 lo fl, to_z-of_z w64 hi fh) at e

-- a product as the call that takes its factors asks for it
pub product_read : (a b : ℤ) (m : ℕ) → FitsSigned w64 a → FitsSigned w64 b → unsigned_abs a * unsigned_abs b ≤ m → unsigned_abs (read w64 a) * unsigned_abs (read w64 b) ≤ m
product_read a b m fa fb small = rw (to_z-of_z w64 a fa, to_z-of_z w64 b fb) small

-- the greater of two small products is small
pub greater_small : (n lo hi r : ℤ) → unsigned_abs n * unsigned_abs lo ≤ 16384 * 100_100_000 → unsigned_abs n * unsigned_abs hi ≤ 16384 * 100_100_000 → r ≡ int_max (n *ℤ lo) (n *ℤ hi) → unsigned_abs r ≤ 16384 * 100_100_000
greater_small n lo hi r low high e =
    let a : unsigned_abs (n *ℤ lo) ≤ 16384 * 100_100_000 = rw unsigned_abs-mul low in
    let b : unsigned_abs (n *ℤ hi) ≤ 16384 * 100_100_000 = rw unsigned_abs-mul high in
    rw e (max_small (n *ℤ lo) (n *ℤ hi) (16384 * 100_100_000) a b)

-- the sum of three small numbers
sum_of_three : (p q r : ℤ) → unsigned_abs p ≤ 16384 * 100_100_000 → unsigned_abs q ≤ 16384 * 100_100_000 → unsigned_abs r ≤ 16384 * 100_100_000 → read w64 (read w64 (read w64 p +ℤ read w64 q) +ℤ read w64 r) ≡ p +ℤ q +ℤ r
sum_of_three p q r hp hq hr =
    gives w64 (p ∷ q ∷ r ∷ []) (16384 * 100_100_000 ∷ 16384 * 100_100_000 ∷ 16384 * 100_100_000 ∷ []) (more hp (more hq (more hr none))) (var 0 ⊕ var 1 ⊕ var 2) tt

pub greatest_is : (n lo hi : Vec3) (p q r : ℤ)
    → unsigned_abs p ≤ 16384 * 100_100_000 → unsigned_abs q ≤ 16384 * 100_100_000 → unsigned_abs r ≤ 16384 * 100_100_000
    → p ≡ int_max (n.x *ℤ lo.x) (n.x *ℤ hi.x) → q ≡ int_max (n.y *ℤ lo.y) (n.y *ℤ hi.y) → r ≡ int_max (n.z *ℤ lo.z) (n.z *ℤ hi.z)
    → read w64 (read w64 (read w64 p +ℤ read w64 q) +ℤ read w64 r) ≡ greatest_dot n (record { lo = lo; hi = hi })
unfolding greatest_dot
greatest_is n lo hi p q r hp hq hr ep eq er = sum_of_three p q r hp hq hr ∙ rw (ep, eq, er) refl

-- ---- the greatest dot product of two boxes

-- the code of `greatest_product` gives the greatest of the four
pub four_is : (a_lo a_hi b_lo b_hi p q r : ℤ) → FitsSigned w64 a_lo → FitsSigned w64 a_hi → FitsSigned w64 b_lo → FitsSigned w64 b_hi → FitsSigned w64 p → FitsSigned w64 q → FitsSigned w64 r
    → p ≡ int_max (read w64 a_lo *ℤ read w64 b_lo) (read w64 a_lo *ℤ read w64 b_hi)
    → q ≡ int_max (read w64 a_hi *ℤ read w64 b_lo) (read w64 a_hi *ℤ read w64 b_hi)
    → r ≡ int_max (read w64 p) (read w64 q)
    → read w64 r ≡ greatest_product a_lo a_hi b_lo b_hi
four_is a_lo a_hi b_lo b_hi p q r fal fah fbl fbh fp fq fr ep eq er =
    let p_is = max_read a_lo b_lo b_hi p fal fbl fbh ep in
    let q_is = max_read a_hi b_lo b_hi q fah fbl fbh eq in
    to_z-of_z w64 r fr ∙ rw (to_z-of_z w64 p fp, to_z-of_z w64 q fq, p_is, q_is) at er

pub four_small : (a_lo a_hi b_lo b_hi r : ℤ) → unsigned_abs a_lo ≤ 16384 → unsigned_abs a_hi ≤ 16384 → unsigned_abs b_lo ≤ 100_100_000 → unsigned_abs b_hi ≤ 100_100_000 → r ≡ greatest_product a_lo a_hi b_lo b_hi → unsigned_abs r ≤ 16384 * 100_100_000
four_small a_lo a_hi b_lo b_hi r al ah bl bh e = rw e (greatest_product-small a_lo a_hi b_lo b_hi 16384 100_100_000 al ah bl bh)

pub four_read : (a_lo a_hi b_lo b_hi r : ℤ) → FitsSigned w64 a_lo → FitsSigned w64 a_hi → FitsSigned w64 b_lo → FitsSigned w64 b_hi → r ≡ greatest_product (read w64 a_lo) (read w64 a_hi) (read w64 b_lo) (read w64 b_hi) → r ≡ greatest_product a_lo a_hi b_lo b_hi
four_read a_lo a_hi b_lo b_hi r fal fah fbl fbh e = rw (to_z-of_z w64 a_lo fal, to_z-of_z w64 a_hi fah, to_z-of_z w64 b_lo fbl, to_z-of_z w64 b_hi fbh) at e

pub greatest_of_boxes_is : (a_lo a_hi b_lo b_hi : Vec3) (p q r : ℤ)
    → unsigned_abs p ≤ 16384 * 100_100_000 → unsigned_abs q ≤ 16384 * 100_100_000 → unsigned_abs r ≤ 16384 * 100_100_000
    → p ≡ greatest_product a_lo.x a_hi.x b_lo.x b_hi.x → q ≡ greatest_product a_lo.y a_hi.y b_lo.y b_hi.y → r ≡ greatest_product a_lo.z a_hi.z b_lo.z b_hi.z
    → read w64 (read w64 (read w64 p +ℤ read w64 q) +ℤ read w64 r) ≡ greatest_dot_of_boxes (record { lo = a_lo; hi = a_hi }) (record { lo = b_lo; hi = b_hi })
unfolding greatest_dot_of_boxes
greatest_of_boxes_is a_lo a_hi b_lo b_hi p q r hp hq hr ep eq er = sum_of_three p q r hp hq hr ∙ rw (ep, eq, er) refl

-- ---- the cosine

sign_of : (z : ℤ) → int_le z (pos 0) ≡ false → pos (unsigned_abs z) ≡ z
sign_of (pos n) h = refl
sign_of (negsuc n) h = cc

pub cosine_none : (along : ℤ) (squares : ℕ) → FitsSigned w64 along → int_le (read w64 along) (pos 0) ≡ true → 0 ≡ cosine_at_most along squares
unfolding cosine_at_most
cosine_none along squares f negative =
    let no = not_positive along (rw (to_z-of_z w64 along f) at negative) in
    rw no refl

pub cosine_read : (along : ℤ) (squares r : ℕ) → FitsSigned w64 along → int_le (read w64 along) (pos 0) ≡ false → r ≡ cosine_at_most (pos (unsigned_abs (read w64 along))) squares → r ≡ cosine_at_most along squares
cosine_read along squares r f positive e =
    let is : read w64 along ≡ along = to_z-of_z w64 along f in
    let own : pos (unsigned_abs along) ≡ along = sign_of along (rw is at positive) in
    rw (is, own) at e

-- the cosine of a positive dot product
module _ (along squares : ℕ) (positive : 0 < along) where
  pub cosine_whole : squares ≤ along * along → 65536 ≡ cosine_at_most (pos along) squares
  unfolding cosine_at_most
  cosine_whole above =
      let yes : int_lt (pos 0) (pos along) ≡ true = grind (arith, nat_tests) in
      ⊎_elim
      (λ (some : 0 < squares).
      let no = eqb_no squares 0 some in
      let most : 65536 ≤ ratio_root squares (2 ^ 32 * (along * along)) = ratio_root-greatest _ _ 65536 some (omega arith) in
      rw (yes, no) (omega arith))
      (λ (empty : squares ≤ 0). let zero_now : squares ≡ 0 = omega arith in rw (yes, zero_now) refl)
      (cases_lt 0 squares)

  pub cosine_root : along * along < squares → ratio_root squares (2 ^ 32 * (along * along)) ≡ cosine_at_most (pos along) squares
  unfolding cosine_at_most
  cosine_root below =
      let yes : int_lt (pos 0) (pos along) ≡ true = grind (arith, nat_tests) in
      let no = eqb_no squares 0 (omega arith) in
      let most : ratio_root squares (2 ^ 32 * (along * along)) ≤ 65536 = ratio_root-at_most _ _ 65536 (omega arith) in
      rw (yes, no) (omega arith)

  pub cosine_quotient : along * along < squares → isqrt (2 ^ 32 * (along * along) / squares) ≡ cosine_at_most (pos along) squares
  cosine_quotient below = isqrt-of_quotient _ squares (omega arith) ∙ cosine_root below
