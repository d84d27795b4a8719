-- What the code of `cos_top2` and `emit_top2` gives.
use Rattle.std.proofs.Common.{◌≡◌, ℕ, ◌+◌, ◌*◌, ◌^◌, ◌≤◌, true, false, arith, refl, ◌∙◌, ⊎_elim, ℤ, pos, ◌-ℤ◌, ◌*ℤ◌, ◌≤ℤ◌, FitsSigned}
use Rattle.std.specs.Prelude.{min}
use Rattle.std.specs.Int.RustNames.{unsigned_abs, int_le}
use Rattle.std.specs.Int.{w64, int_min, int_max}
use Rattle.std.proofs.lemmas.Int.{ints, clamps, to_z-of_z, unsigned_abs-mul}
use Rattle.std.proofs.lemmas.Nat.{mul-le}
use Rattle.std.proofs.lemmas.Bool.{cases_Bool}
use Rattle.lc_algebra.proofs.Machine.{read, read_small}
use Rattle.lc_algebra.proofs.Absolute.{abs-minus, abs-times}
use Rattle.lc_num.specs.Vectors.{Within}
use Rattle.lc_num.specs.Boxes.{SpanEnds, IsBoxWithin, CanBound, greatest_product}
use Rattle.lc_num.specs.Crosses.{least_square, least_product, least_component, least_cross}
use Rattle.lc_num.specs.Cosines.{cosine_at_most}
use Rattle.lc_num.specs.declared.vectors.Vec3.{Vec3}
use Rattle.lc_num.specs.declared.crosses.Between.{Between}
use Rattle.lc_num.proofs.BoxCode.{product_small, max_read, four_read, cosine_none}
use Rattle.lc_num.proofs.ExtremeLemmas.{min_small}

-- ---- products

-- the code of `multiples` gives the lesser of the two
pub lesser_is : (n lo hi r : ℤ) → FitsSigned w64 n → FitsSigned w64 lo → FitsSigned w64 hi → FitsSigned w64 r
    → unsigned_abs n * unsigned_abs lo ≤ 16384 * 100_100_000 → unsigned_abs n * unsigned_abs hi ≤ 16384 * 100_100_000
    → r ≡ int_min (read w64 (read w64 n *ℤ read w64 lo)) (read w64 (read w64 n *ℤ read w64 hi))
    → read w64 r ≡ int_min (n *ℤ lo) (n *ℤ hi)
lesser_is n lo hi r fn fl fh fr low high e =
    to_z-of_z w64 r fr
    ∙ rw (
      to_z-of_z w64 n fn,
      to_z-of_z w64 lo fl,
      to_z-of_z w64 hi fh,
      product_small n lo (16384 * 100_100_000) (omega arith) low,
      product_small n hi (16384 * 100_100_000) (omega arith) high,
    )
    at e

pub lesser_small : (n lo hi r : ℤ) → unsigned_abs n * unsigned_abs lo ≤ 16384 * 100_100_000
    → unsigned_abs n * unsigned_abs hi ≤ 16384 * 100_100_000 → r ≡ int_min (n *ℤ lo) (n *ℤ hi)
    → unsigned_abs r ≤ 16384 * 100_100_000
lesser_small n lo hi r low high e =
    let a : unsigned_abs (n *ℤ lo) ≤ 16384 * 100_100_000 = rw unsigned_abs-mul low in
    let b : unsigned_abs (n *ℤ hi) ≤ 16384 * 100_100_000 = rw unsigned_abs-mul high in
    rw e (min_small (n *ℤ lo) (n *ℤ hi) (16384 * 100_100_000) a b)

pub ends_in_order : (a b p q : ℤ) → p ≡ int_min a b → q ≡ int_max a b → p ≤ℤ q
ends_in_order a b p q ep eq = omega (arith, ints, clamps)

min_read : (n lo hi r : ℤ) → FitsSigned w64 n → FitsSigned w64 lo → FitsSigned w64 hi
    → r ≡ int_min (read w64 n *ℤ read w64 lo) (read w64 n *ℤ read w64 hi) → r ≡ int_min (n *ℤ lo) (n *ℤ hi)
min_read n lo hi r fn fl fh e = rw (to_z-of_z w64 n fn, to_z-of_z w64 lo fl, to_z-of_z w64 hi fh) at e

-- the code of `products` gives the least of the four
pub least_four_is : (a_lo a_hi b_lo b_hi p q r : ℤ) → FitsSigned w64 a_lo → FitsSigned w64 a_hi → FitsSigned w64 b_lo
    → FitsSigned w64 b_hi → FitsSigned w64 p → FitsSigned w64 q → FitsSigned w64 r
    → p ≡ int_min (read w64 a_lo *ℤ read w64 b_lo) (read w64 a_lo *ℤ read w64 b_hi)
    → q ≡ int_min (read w64 a_hi *ℤ read w64 b_lo) (read w64 a_hi *ℤ read w64 b_hi)
    → r ≡ int_min (read w64 p) (read w64 q)
    → read w64 r ≡ least_product a_lo a_hi b_lo b_hi
least_four_is a_lo a_hi b_lo b_hi p q r fal fah fbl fbh fp fq fr ep eq er =
    let p_is = min_read a_lo b_lo b_hi p fal fbl fbh ep in
    let q_is = min_read a_hi b_lo b_hi q fah fbl fbh eq in
    to_z-of_z w64 r fr ∙ rw (to_z-of_z w64 p fp, to_z-of_z w64 q fq, p_is, q_is) at er

pub least_four_small : (a_lo a_hi b_lo b_hi r : ℤ) → unsigned_abs a_lo ≤ 16384 → unsigned_abs a_hi ≤ 16384
    → unsigned_abs b_lo ≤ 100_100_000 → unsigned_abs b_hi ≤ 100_100_000 → r ≡ least_product a_lo a_hi b_lo b_hi
    → unsigned_abs r ≤ 16384 * 100_100_000
least_four_small a_lo a_hi b_lo b_hi r al ah bl bh e =
    let small = 16384 * 100_100_000 in
    rw e
    (min_small (int_min (a_lo *ℤ b_lo) (a_lo *ℤ b_hi)) (int_min (a_hi *ℤ b_lo) (a_hi *ℤ b_hi)) small
    (min_small (a_lo *ℤ b_lo) (a_lo *ℤ b_hi) small (abs-times a_lo b_lo _ _ al bl) (abs-times a_lo b_hi _ _ al bh))
    (min_small (a_hi *ℤ b_lo) (a_hi *ℤ b_hi) small (abs-times a_hi b_lo _ _ ah bl) (abs-times a_hi b_hi _ _ ah bh)))

four_in_order : (a b c d : ℤ) → int_min (int_min a b) (int_min c d) ≤ℤ int_max (int_max a b) (int_max c d)
four_in_order a b c d = omega (arith, ints, clamps)

pub products_in_order : (a_lo a_hi b_lo b_hi p q : ℤ) → p ≡ least_product a_lo a_hi b_lo b_hi
    → q ≡ greatest_product a_lo a_hi b_lo b_hi → p ≤ℤ q
products_in_order a_lo a_hi b_lo b_hi p q ep eq =
    rw (ep, eq) (four_in_order (a_lo *ℤ b_lo) (a_lo *ℤ b_hi) (a_hi *ℤ b_lo) (a_hi *ℤ b_hi))

-- ---- the least square

same_square : (x y : ℕ) → x ≡ y → x * x ≡ y * y
same_square x y e = rw e refl

min_first : (a b : ℕ) → a ≤ b → min a b ≡ a
min_first a b h = omega arith

min_second : (a b : ℕ) → b ≤ a → min a b ≡ b
min_second a b h = omega arith

abbrev nearest_to_zero : ℤ → ℤ → ℤ
nearest_to_zero lo hi = int_max (int_max lo (pos 0 -ℤ hi)) (pos 0)

pub least_square_is : (lo hi : ℤ) → lo ≤ℤ hi
    → unsigned_abs (nearest_to_zero lo hi) * unsigned_abs (nearest_to_zero lo hi) ≡ least_square lo hi
unfolding least_square
least_square_is lo hi order =
    ⊎_elim
    (λ (below : int_le lo (pos 0) ≡ true).
    ⊎_elim
    (λ (above : int_le (pos 0) hi ≡ true).
    let e : unsigned_abs (nearest_to_zero lo hi) ≡ 0 = omega (arith, ints, clamps) in rw (below, above, e) refl)
    (λ (not : int_le (pos 0) hi ≡ false).
    let e : unsigned_abs (nearest_to_zero lo hi) ≡ unsigned_abs hi = omega (arith, ints, clamps) in
    let near : unsigned_abs hi ≤ unsigned_abs lo = omega (arith, ints) in
    rw (below, not, e, min_second _ _ (mul-le _ _ _ _ near near)) refl)
    (cases_Bool (int_le (pos 0) hi)))
    (λ (not : int_le lo (pos 0) ≡ false).
    let e : unsigned_abs (nearest_to_zero lo hi) ≡ unsigned_abs lo = omega (arith, ints, clamps) in
    let near : unsigned_abs lo ≤ unsigned_abs hi = omega (arith, ints) in
    rw (not, e, min_first _ _ (mul-le _ _ _ _ near near)) refl)
    (cases_Bool (int_le lo (pos 0)))

pub nearest_read : (lo hi a r : ℤ) → unsigned_abs lo ≤ 2 ^ 42 → unsigned_abs hi ≤ 2 ^ 42
    → a ≡ int_max (read w64 lo) (read w64 (pos 0 -ℤ read w64 hi)) → r ≡ int_max (read w64 a) (pos 0)
    → read w64 r ≡ nearest_to_zero lo hi
nearest_read lo hi a r hl hh ea er =
    let turned : unsigned_abs (pos 0 -ℤ hi) ≤ 2 ^ 42 = omega (arith, ints) in
    let a_is : a ≡ int_max lo (pos 0 -ℤ hi) = rw
    (read_small w64 lo (omega arith), read_small w64 hi (omega arith), read_small w64 (pos 0 -ℤ hi) (omega arith))
    at ea in
    let a_small : unsigned_abs a ≤ 2 ^ 42 = omega (arith, ints, clamps) in
    let r_is : r ≡ int_max a (pos 0) = rw (read_small w64 a (omega arith)) at er in
    let r_small : unsigned_abs r ≤ 2 ^ 42 = omega (arith, ints, clamps) in
    read_small w64 r (omega arith) ∙ rw a_is at r_is

pub difference_read : (p q : ℤ) → unsigned_abs p ≤ 16384 * 100_100_000 → unsigned_abs q ≤ 16384 * 100_100_000
    → read w64 (read w64 p -ℤ read w64 q) ≡ p -ℤ q
difference_read p q hp hq =
    rw (read_small w64 p (omega arith), read_small w64 q (omega arith))
    (read_small w64 (p -ℤ q) (omega (arith, abs-minus p q)))

-- ---- the least cross product

-- the products of each component of a vector with those of another that stand in their cross product are small
pub record CrossIsSmall (n v : Vec3) : Type 0 where
  pub xy : unsigned_abs n.x * unsigned_abs v.y ≤ 16384 * 100_100_000
  pub xz : unsigned_abs n.x * unsigned_abs v.z ≤ 16384 * 100_100_000
  pub yx : unsigned_abs n.y * unsigned_abs v.x ≤ 16384 * 100_100_000
  pub yz : unsigned_abs n.y * unsigned_abs v.z ≤ 16384 * 100_100_000
  pub zx : unsigned_abs n.z * unsigned_abs v.x ≤ 16384 * 100_100_000
  pub zy : unsigned_abs n.z * unsigned_abs v.y ≤ 16384 * 100_100_000

cross_small_by : (n v : Vec3) (p q : ℕ) → p * q ≤ 16384 * 100_100_000 → Within p n → Within q v → CrossIsSmall n v
cross_small_by n v p q small hn hv = record {
  xy = omega (arith, mul-le _ _ p q hn.x hv.y);
  xz = omega (arith, mul-le _ _ p q hn.x hv.z);
  yx = omega (arith, mul-le _ _ p q hn.y hv.x);
  yz = omega (arith, mul-le _ _ p q hn.y hv.z);
  zx = omega (arith, mul-le _ _ p q hn.z hv.x);
  zy = omega (arith, mul-le _ _ p q hn.z hv.y);
}

pub crosses_small : (n : Vec3) (box : SpanEnds) → CanBound n box → CrossIsSmall n box.lo × CrossIsSmall n box.hi
crosses_small n box h =
    ⊎_elim
    (λ (w : Within 16384 n × IsBoxWithin 100_100_000 box). (
      cross_small_by n box.lo 16384 100_100_000 (omega arith) w.0 w.1.lo,
      cross_small_by n box.hi 16384 100_100_000
          (omega arith) w.0 w.1.hi,
    ))
    (λ (w : Within 100_100_000 n × IsBoxWithin 16384 box). (
      cross_small_by n box.lo 100_100_000 16384 (omega arith) w.0 w.1.lo,
      cross_small_by n box.hi 100_100_000 16384
          (omega arith) w.0 w.1.hi,
    ))
    h

-- the products of two intervals lie between the two
abbrev AreEnds : ℤ → ℤ → ℤ → ℤ → Between → Type 0
AreEnds a_lo a_hi b_lo b_hi p =
    (p.lo ≡ least_product a_lo a_hi b_lo b_hi) × (p.hi ≡ greatest_product a_lo a_hi b_lo b_hi)

twice_min : (a : ℤ) → int_min a a ≡ a
twice_min a = omega (arith, ints, clamps)

twice_max : (a : ℤ) → int_max a a ≡ a
twice_max a = omega (arith, ints, clamps)

pub multiples_are : (n lo hi : ℤ) (p : Between) → FitsSigned w64 n → FitsSigned w64 lo → FitsSigned w64 hi
    → p.lo ≡ int_min (read w64 n *ℤ read w64 lo) (read w64 n *ℤ read w64 hi)
    → p.hi ≡ int_max (read w64 n *ℤ read w64 lo) (read w64 n *ℤ read w64 hi)
    → AreEnds n n lo hi p
multiples_are n lo hi p fn fl fh el eh = (
  rw (twice_min (int_min (n *ℤ lo) (n *ℤ hi))) (min_read n lo hi p.lo fn fl fh el),
  rw
      (twice_max (int_max (n *ℤ lo) (n *ℤ hi))) (max_read n lo hi p.hi fn fl fh eh),
)

pub products_are : (a_lo a_hi b_lo b_hi : ℤ) (p : Between) → FitsSigned w64 a_lo → FitsSigned w64 a_hi
    → FitsSigned w64 b_lo → FitsSigned w64 b_hi
    → p.lo ≡ least_product (read w64 a_lo) (read w64 a_hi) (read w64 b_lo) (read w64 b_hi)
    → p.hi ≡ greatest_product (read w64 a_lo) (read w64 a_hi) (read w64 b_lo) (read w64 b_hi)
    → AreEnds a_lo a_hi b_lo b_hi p
products_are a_lo a_hi b_lo b_hi p fal fah fbl fbh el eh = (
  rw (to_z-of_z w64 a_lo fal, to_z-of_z w64 a_hi fah, to_z-of_z w64 b_lo fbl, to_z-of_z w64 b_hi fbh) at el,
  four_read a_lo a_hi b_lo b_hi p.hi fal fah fbl fbh eh,
)

component_is : (a_lo a_hi d_lo d_hi b_lo b_hi c_lo c_hi : ℤ) (p q : Between) (x : ℕ) → AreEnds a_lo a_hi d_lo d_hi p
    → AreEnds b_lo b_hi c_lo c_hi q
    → x ≡ least_square (p.lo -ℤ q.hi) (p.hi -ℤ q.lo) → x ≡ least_component a_lo a_hi d_lo d_hi b_lo b_hi c_lo c_hi
component_is a_lo a_hi d_lo d_hi b_lo b_hi c_lo c_hi p q x hp hq e = rw (hp.0, hp.1, hq.0, hq.1) at e

-- the code of `least_cross` and of `least_cross_of_boxes`
module _ (a_lo a_hi b_lo b_hi : Vec3) where
  pub least_cross_is : (p q r s t u : Between) (x y z : ℕ)
      → AreEnds a_lo.y a_hi.y b_lo.z b_hi.z p → AreEnds a_lo.z a_hi.z b_lo.y b_hi.y q
      → AreEnds a_lo.z a_hi.z b_lo.x b_hi.x r → AreEnds a_lo.x a_hi.x b_lo.z b_hi.z s
      → AreEnds a_lo.x a_hi.x b_lo.y b_hi.y t → AreEnds a_lo.y a_hi.y b_lo.x b_hi.x u
      → x ≡ least_square (p.lo -ℤ q.hi) (p.hi -ℤ q.lo) → y ≡ least_square (r.lo -ℤ s.hi) (r.hi -ℤ s.lo)
      → z ≡ least_square (t.lo -ℤ u.hi) (t.hi -ℤ u.lo)
      → x + y + z ≡ least_cross (record { lo = a_lo; hi = a_hi }) (record { lo = b_lo; hi = b_hi })
  unfolding least_cross
  least_cross_is p q r s t u x y z hp hq hr hs ht hu ex ey ez =
      let x_is = component_is a_lo.y a_hi.y b_lo.z b_hi.z a_lo.z a_hi.z b_lo.y b_hi.y p q x hp hq ex in
      let y_is = component_is a_lo.z a_hi.z b_lo.x b_hi.x a_lo.x a_hi.x b_lo.z b_hi.z r s y hr hs ey in
      let z_is = component_is a_lo.x a_hi.x b_lo.y b_hi.y a_lo.y a_hi.y b_lo.x b_hi.x t u z ht hu ez in
      rw (x_is, y_is, z_is) refl

-- ---- the cosine

-- where a dot product is not positive, both cosines are 0
pub neither : (along top : ℤ) (a b : ℕ) → FitsSigned w64 along → along ≡ top → int_le (read w64 along) (pos 0) ≡ true
    → 0 ≡ min (cosine_at_most top a) (cosine_at_most top b)
neither along top a b f e negative =
    let first : 0 ≡ cosine_at_most top a = rw e at (cosine_none along a f negative) in omega arith
