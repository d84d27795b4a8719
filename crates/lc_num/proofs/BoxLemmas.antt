-- The nearest point of a box, and the greatest dot product with a point of it.
use Rattle.std.proofs.Common.{ℕ, ◌+◌, ◌*◌, ◌≤◌, arith, ℤ, ◌-ℤ◌, ◌*ℤ◌, ◌≤ℤ◌, ⊎_elim}
use Rattle.std.specs.Int.RustNames.{unsigned_abs}
use Rattle.std.specs.Int.{int_min, int_max}
use Rattle.std.proofs.lemmas.Int.{ints, clamps}
use Rattle.std.proofs.lemmas.Nat.{mul-le}
use Rattle.std.proofs.Math.IntN.{*ℤ_comm}
use Rattle.lc_algebra.proofs.Absolute.{abs-times, abs-sum3}
use Rattle.lc_algebra.proofs.Order.{≤ℤ_trans, add-le3, between_products}
use Rattle.lc_num.specs.Vectors.{Within, difference, dot, square}
use Rattle.lc_num.specs.Boxes.{SpanEnds, IsOrdered, IsInside, IsBoxWithin, CanBound, nearest, near2, greatest_dot, greatest_product, greatest_dot_of_boxes}
use Rattle.lc_num.specs.declared.vectors.Vec3.{Vec3}
use Rattle.lc_num.proofs.SquareLemmas.{square-is}
use Rattle.lc_num.proofs.ExtremeLemmas.{max_small}

-- the number between lo and hi that is nearest to x
abbrev clamped : ℤ → ℤ → ℤ → ℤ
clamped lo hi x = int_max lo (int_min x hi)

clamped_low : (lo hi x : ℤ) → lo ≤ℤ clamped lo hi x
clamped_low lo hi x = omega (arith, ints, clamps)

clamped_high : (lo hi x : ℤ) → lo ≤ℤ hi → clamped lo hi x ≤ℤ hi
clamped_high lo hi x h = omega (arith, ints, clamps)

clamped_least : (lo hi x p : ℤ) → lo ≤ℤ p → p ≤ℤ hi → unsigned_abs (clamped lo hi x -ℤ x) ≤ unsigned_abs (p -ℤ x)
clamped_least lo hi x p low high = omega (arith, ints, clamps)

pub nearest-inside : (x : Vec3) (box : SpanEnds) → IsOrdered box.lo box.hi → IsInside box (nearest x box)
nearest-inside x box h = record {
  x = (clamped_low box.lo.x box.hi.x x.x, clamped_high box.lo.x box.hi.x x.x h.x);
  y = (clamped_low box.lo.y box.hi.y x.y, clamped_high box.lo.y box.hi.y x.y h.y);
  z = (clamped_low box.lo.z box.hi.z x.z, clamped_high box.lo.z box.hi.z x.z h.z);
}

pub near2-least : (x : Vec3) (box : SpanEnds) (p : Vec3) → IsInside box p → near2 x box ≤ square (difference p x)
unfolding near2
near2-least x box p h =
    let a = clamped_least box.lo.x box.hi.x x.x p.x h.x.0 h.x.1 in
    let b = clamped_least box.lo.y box.hi.y x.y p.y h.y.0 h.y.1 in
    let c = clamped_least box.lo.z box.hi.z x.z p.z h.z.0 h.z.1 in
    rw (square-is (difference (nearest x box) x), square-is (difference p x))
    (omega (arith, mul-le _ _ _ _ a a, mul-le _ _ _ _ b b, mul-le _ _ _ _ c c))

clamped_small : (lo hi x : ℤ) (m n : ℕ) → unsigned_abs x ≤ m → unsigned_abs lo ≤ n → unsigned_abs hi ≤ n → unsigned_abs (clamped lo hi x -ℤ x) ≤ m + n
clamped_small lo hi x m n hx hl hh = omega (arith, ints, clamps)

pub near2-small : (m n : ℕ) (x : Vec3) (box : SpanEnds) → Within m x → IsBoxWithin n box → near2 x box ≤ 3 * ((m + n) * (m + n))
unfolding near2
near2-small m n x box hx hb =
    let a = clamped_small box.lo.x box.hi.x x.x m n hx.x hb.lo.x hb.hi.x in
    let b = clamped_small box.lo.y box.hi.y x.y m n hx.y hb.lo.y hb.hi.y in
    let c = clamped_small box.lo.z box.hi.z x.z m n hx.z hb.lo.z hb.hi.z in
    rw (square-is (difference (nearest x box) x)) (omega (arith, mul-le _ _ _ _ a a, mul-le _ _ _ _ b b, mul-le _ _ _ _ c c))

-- ---- the greatest dot product

pub dot_below_greatest : (n b : Vec3) (box : SpanEnds) → IsInside box b → dot n b ≤ℤ greatest_dot n box
unfolding dot greatest_dot
dot_below_greatest n b box h =
    add-le3 (n.x *ℤ b.x) (n.y *ℤ b.y) (n.z *ℤ b.z) (int_max (n.x *ℤ box.lo.x) (n.x *ℤ box.hi.x)) (int_max (n.y *ℤ box.lo.y) (n.y *ℤ box.hi.y)) (int_max (n.z *ℤ box.lo.z) (n.z *ℤ box.hi.z))
    (between_products n.x box.lo.x box.hi.x b.x h.x.0 h.x.1)
    (between_products n.y box.lo.y box.hi.y b.y h.y.0 h.y.1)
    (between_products n.z box.lo.z box.hi.z b.z h.z.0 h.z.1)

greatest_small_by : (n : Vec3) (box : SpanEnds) (p q : ℕ) → Within p n → IsBoxWithin q box → unsigned_abs (greatest_dot n box) ≤ 3 * (p * q)
unfolding greatest_dot
greatest_small_by n box p q hn hb =
    let x = max_small (n.x *ℤ box.lo.x) (n.x *ℤ box.hi.x) (p * q) (abs-times n.x box.lo.x p q hn.x hb.lo.x) (abs-times n.x box.hi.x p q hn.x hb.hi.x) in
    let y = max_small (n.y *ℤ box.lo.y) (n.y *ℤ box.hi.y) (p * q) (abs-times n.y box.lo.y p q hn.y hb.lo.y) (abs-times n.y box.hi.y p q hn.y hb.hi.y) in
    let z = max_small (n.z *ℤ box.lo.z) (n.z *ℤ box.hi.z) (p * q) (abs-times n.z box.lo.z p q hn.z hb.lo.z) (abs-times n.z box.hi.z p q hn.z hb.hi.z) in
    abs-sum3 (int_max (n.x *ℤ box.lo.x) (n.x *ℤ box.hi.x)) (int_max (n.y *ℤ box.lo.y) (n.y *ℤ box.hi.y)) (int_max (n.z *ℤ box.lo.z) (n.z *ℤ box.hi.z)) (p * q) x y z

pub greatest_small : (n : Vec3) (box : SpanEnds) → CanBound n box → unsigned_abs (greatest_dot n box) ≤ 3 * (16384 * 100_100_000)
greatest_small n box h =
    ⊎_elim
    (λ (w : Within 16384 n × IsBoxWithin 100_100_000 box). greatest_small_by n box 16384 100_100_000 w.0 w.1)
    (λ (w : Within 100_100_000 n × IsBoxWithin 16384 box). let most = greatest_small_by n box 100_100_000 16384 w.0 w.1 in omega arith)
    h

-- ---- sizes on each axis

abbrev pub AreSmall : ℤ → ℤ → ℤ → Type 0
AreSmall n lo hi = (unsigned_abs n * unsigned_abs lo ≤ 16384 * 100_100_000) × (unsigned_abs n * unsigned_abs hi ≤ 16384 * 100_100_000)

pub record EndsAreSmall (n : Vec3) (box : SpanEnds) : Type 0 where
  pub x : AreSmall n.x box.lo.x box.hi.x
  pub y : AreSmall n.y box.lo.y box.hi.y
  pub z : AreSmall n.z box.lo.z box.hi.z

small_by : (n : Vec3) (box : SpanEnds) (p q : ℕ) → p * q ≤ 16384 * 100_100_000 → Within p n → IsBoxWithin q box → EndsAreSmall n box
small_by n box p q small hn hb = record {
  x = (omega (arith, mul-le _ _ p q hn.x hb.lo.x), omega (arith, mul-le _ _ p q hn.x hb.hi.x));
  y = (omega (arith, mul-le _ _ p q hn.y hb.lo.y), omega (arith, mul-le _ _ p q hn.y hb.hi.y));
  z = (omega (arith, mul-le _ _ p q hn.z hb.lo.z), omega (arith, mul-le _ _ p q hn.z hb.hi.z));
}

pub ends_small : (n : Vec3) (box : SpanEnds) → CanBound n box → EndsAreSmall n box
ends_small n box h =
    ⊎_elim
    (λ (w : Within 16384 n × IsBoxWithin 100_100_000 box). small_by n box 16384 100_100_000 (omega arith) w.0 w.1)
    (λ (w : Within 100_100_000 n × IsBoxWithin 16384 box). small_by n box 100_100_000 16384 (omega arith) w.0 w.1)
    h

-- ---- two boxes

max_below : (a b x y : ℤ) → a ≤ℤ x → b ≤ℤ y → int_max a b ≤ℤ int_max x y
max_below a b x y h k = omega (arith, ints, clamps)

-- a product of numbers of two intervals is at most the greatest product of their ends
pub between_four_products : (a_lo a_hi b_lo b_hi a b : ℤ) → (a_lo ≤ℤ a) × (a ≤ℤ a_hi) → (b_lo ≤ℤ b) × (b ≤ℤ b_hi) → (a *ℤ b) ≤ℤ greatest_product a_lo a_hi b_lo b_hi
between_four_products a_lo a_hi b_lo b_hi a b ha hb =
    let turned : (a *ℤ b) ≤ℤ int_max (a_lo *ℤ b) (a_hi *ℤ b) = rw (*ℤ_comm b a, *ℤ_comm b a_lo, *ℤ_comm b a_hi) at (between_products b a_lo a_hi a ha.0 ha.1) in
    ≤ℤ_trans (a *ℤ b) (int_max (a_lo *ℤ b) (a_hi *ℤ b)) (greatest_product a_lo a_hi b_lo b_hi) turned
    (max_below (a_lo *ℤ b) (a_hi *ℤ b) (int_max (a_lo *ℤ b_lo) (a_lo *ℤ b_hi)) (int_max (a_hi *ℤ b_lo) (a_hi *ℤ b_hi))
    (between_products a_lo b_lo b_hi b hb.0 hb.1)
    (between_products a_hi b_lo b_hi b hb.0 hb.1))

pub dot_below_greatest_of_boxes : (m d : Vec3) (a b : SpanEnds) → IsInside a m → IsInside b d → dot m d ≤ℤ greatest_dot_of_boxes a b
unfolding dot greatest_dot_of_boxes
dot_below_greatest_of_boxes m d a b hm hd =
    add-le3 (m.x *ℤ d.x) (m.y *ℤ d.y) (m.z *ℤ d.z) (greatest_product a.lo.x a.hi.x b.lo.x b.hi.x) (greatest_product a.lo.y a.hi.y b.lo.y b.hi.y) (greatest_product a.lo.z a.hi.z b.lo.z b.hi.z)
    (between_four_products a.lo.x a.hi.x b.lo.x b.hi.x m.x d.x hm.x hd.x)
    (between_four_products a.lo.y a.hi.y b.lo.y b.hi.y m.y d.y hm.y hd.y)
    (between_four_products a.lo.z a.hi.z b.lo.z b.hi.z m.z d.z hm.z hd.z)

pub greatest_product-small : (a_lo a_hi b_lo b_hi : ℤ) (m n : ℕ) → unsigned_abs a_lo ≤ m → unsigned_abs a_hi ≤ m → unsigned_abs b_lo ≤ n → unsigned_abs b_hi ≤ n → unsigned_abs (greatest_product a_lo a_hi b_lo b_hi) ≤ m * n
greatest_product-small a_lo a_hi b_lo b_hi m n al ah bl bh =
    max_small (int_max (a_lo *ℤ b_lo) (a_lo *ℤ b_hi)) (int_max (a_hi *ℤ b_lo) (a_hi *ℤ b_hi)) (m * n)
    (max_small (a_lo *ℤ b_lo) (a_lo *ℤ b_hi) (m * n) (abs-times a_lo b_lo m n al bl) (abs-times a_lo b_hi m n al bh))
    (max_small (a_hi *ℤ b_lo) (a_hi *ℤ b_hi) (m * n) (abs-times a_hi b_lo m n ah bl) (abs-times a_hi b_hi m n ah bh))
