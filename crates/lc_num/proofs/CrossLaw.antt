-- A bound by cross products is at least the cosine of each vector of the box.
use Rattle.std.proofs.Common.{◌≡◌, ℕ, ◌+◌, ◌*◌, ◌^◌, ◌<◌, ◌≤◌, true, false, arith, ⊎_elim, le_trans, ℤ, pos, ◌-◌, ◌+ℤ◌, ◌-ℤ◌, ◌*ℤ◌, ◌≤ℤ◌}
use Rattle.std.specs.Prelude.{min, max}
use Rattle.std.specs.Int.{int_min}
use Rattle.std.specs.Int.RustNames.{unsigned_abs, int_lt, int_le}
use Rattle.std.proofs.lemmas.Int.{ints, clamps}
use Rattle.std.proofs.lemmas.Nat.{mul-le}
use Rattle.std.proofs.lemmas.Bool.{cases_Bool, cases_lt}
use Rattle.std.proofs.Math.Nat.{mul-le-mul_left}
use Rattle.std.proofs.Math.IntN.{*ℤ_comm}
use Rattle.lc_algebra.specs.Roots.{ratio_root}
use Rattle.lc_algebra.proofs.Roots.{ratio_root-rises, ratio_root-low, ratio_root-greatest}
use Rattle.lc_algebra.proofs.Order.{≤ℤ_trans, cases_sign, mul-le_left, mul-le_left_neg}
use Rattle.lc_algebra.proofs.Absolute.{square_is_pos}
use Rattle.lc_algebra.proofs.SixNumbers.{lagrange}
use Rattle.lc_num.specs.Vectors.{dot, square, cross}
use Rattle.lc_num.specs.Cosines.{cos16, cosine_at_most}
use Rattle.lc_num.specs.Boxes.{SpanEnds, IsInside, greatest_dot, greatest_product, greatest_dot_of_boxes, cos_top, emit_top}
use Rattle.lc_num.specs.Crosses.{least_square, least_product, least_component, least_cross, cosine_beside, cos_top2, emit_top2}
use Rattle.lc_num.specs.declared.vectors.Vec3.{Vec3}
use Rattle.lc_num.proofs.SquareLemmas.{square-is, dot-self}
use Rattle.lc_num.proofs.ScaledLemmas.{eqb_no}
use Rattle.lc_num.proofs.BoxLemmas.{dot_below_greatest, dot_below_greatest_of_boxes, between_four_products}
use Rattle.lc_num.proofs.CosineLaw.{positive_sign, positive_above, own_root, cos16_below_cos_top, cos16_below_emit_top, cos_top-small, emit_top-small, cosine_at_most-small}

-- ---- the least cross product

-- a product with a number between two is at least the lesser of the products with these
above_products : (n lo hi b : ℤ) → lo ≤ℤ b → b ≤ℤ hi → int_min (n *ℤ lo) (n *ℤ hi) ≤ℤ (n *ℤ b)
above_products n lo hi b low high =
    ⊎_elim
    (λ (up : pos 0 ≤ℤ n). let h = mul-le_left n lo b up low in omega (arith, ints, clamps))
    (λ (down : n ≤ℤ pos 0). let h = mul-le_left_neg n b hi down high in omega (arith, ints, clamps))
    (cases_sign n)

min_below : (a b x y : ℤ) → a ≤ℤ x → b ≤ℤ y → int_min a b ≤ℤ int_min x y
min_below a b x y h k = omega (arith, ints, clamps)

above_four_products : (a_lo a_hi b_lo b_hi a b : ℤ) → (a_lo ≤ℤ a) × (a ≤ℤ a_hi) → (b_lo ≤ℤ b) × (b ≤ℤ b_hi)
    → least_product a_lo a_hi b_lo b_hi ≤ℤ (a *ℤ b)
above_four_products a_lo a_hi b_lo b_hi a b ha hb =
    let turned : int_min (a_lo *ℤ b) (a_hi *ℤ b) ≤ℤ (a *ℤ b) = rw (*ℤ_comm b a, *ℤ_comm b a_lo, *ℤ_comm b a_hi) at
    (above_products b a_lo a_hi a ha.0 ha.1) in
    ≤ℤ_trans (least_product a_lo a_hi b_lo b_hi) (int_min (a_lo *ℤ b) (a_hi *ℤ b)) (a *ℤ b)
    (min_below (int_min (a_lo *ℤ b_lo) (a_lo *ℤ b_hi)) (int_min (a_hi *ℤ b_lo) (a_hi *ℤ b_hi)) (a_lo *ℤ b) (a_hi *ℤ b)
    (above_products a_lo b_lo b_hi b hb.0 hb.1)
    (above_products a_hi b_lo b_hi b hb.0 hb.1))
    turned

ends_of_difference : (p_lo p_hi q_lo q_hi p q : ℤ) → p_lo ≤ℤ p → p ≤ℤ p_hi → q_lo ≤ℤ q → q ≤ℤ q_hi
    → ((p_lo -ℤ q_hi) ≤ℤ (p -ℤ q)) × ((p -ℤ q) ≤ℤ (p_hi -ℤ q_lo))
ends_of_difference p_lo p_hi q_lo q_hi p q h g k l = (omega (arith, ints), omega (arith, ints))

-- a number between two ends, both above 0 or both below it, is no nearer to 0 than the nearer end
no_nearer_up : (lo x : ℤ) → int_le lo (pos 0) ≡ false → lo ≤ℤ x → unsigned_abs lo ≤ unsigned_abs x
no_nearer_up lo x h k = omega (arith, ints)

no_nearer_down : (hi x : ℤ) → int_le (pos 0) hi ≡ false → x ≤ℤ hi → unsigned_abs hi ≤ unsigned_abs x
no_nearer_down hi x h k = omega (arith, ints)

least_square-least : (lo hi x : ℤ) → lo ≤ℤ x → x ≤ℤ hi → least_square lo hi ≤ unsigned_abs x * unsigned_abs x
unfolding least_square
least_square-least lo hi x low high =
    ⊎_elim
    (λ (below : int_le lo (pos 0) ≡ true).
    ⊎_elim
    (λ (above : int_le (pos 0) hi ≡ true). rw (below, above) (omega arith))
    (λ (not : int_le (pos 0) hi ≡ false).
    rw (below, not) (let near = no_nearer_down hi x not high in omega (arith, mul-le _ _ _ _ near near)))
    (cases_Bool (int_le (pos 0) hi)))
    (λ (not : int_le lo (pos 0) ≡ false).
    rw not (let near = no_nearer_up lo x not low in omega (arith, mul-le _ _ _ _ near near)))
    (cases_Bool (int_le lo (pos 0)))

least_component-least : (a_lo a_hi d_lo d_hi b_lo b_hi c_lo c_hi a d b c : ℤ)
    → (a_lo ≤ℤ a) × (a ≤ℤ a_hi) → (d_lo ≤ℤ d) × (d ≤ℤ d_hi) → (b_lo ≤ℤ b) × (b ≤ℤ b_hi) → (c_lo ≤ℤ c) × (c ≤ℤ c_hi)
    → least_component a_lo a_hi d_lo d_hi b_lo b_hi c_lo c_hi
    ≤ unsigned_abs (a *ℤ d -ℤ b *ℤ c) * unsigned_abs (a *ℤ d -ℤ b *ℤ c)
least_component-least a_lo a_hi d_lo d_hi b_lo b_hi c_lo c_hi a d b c ha hd hb hc =
    let ends = ends_of_difference (least_product a_lo a_hi d_lo d_hi) (greatest_product a_lo a_hi d_lo d_hi)
    (least_product b_lo b_hi c_lo c_hi) (greatest_product b_lo b_hi c_lo c_hi) (a *ℤ d) (b *ℤ c)
    (above_four_products a_lo a_hi d_lo d_hi a d ha hd) (between_four_products a_lo a_hi d_lo d_hi a d ha hd)
    (above_four_products b_lo b_hi c_lo c_hi b c hb hc) (between_four_products b_lo b_hi c_lo c_hi b c hb hc) in
    least_square-least _ _ (a *ℤ d -ℤ b *ℤ c) ends.0 ends.1

pub least_cross-least : (a b : SpanEnds) (m d : Vec3) → IsInside a m → IsInside b d → least_cross a b ≤ square (cross m d)
unfolding least_cross cross
least_cross-least a b m d hm hd =
    let x = least_component-least a.lo.y a.hi.y b.lo.z b.hi.z a.lo.z a.hi.z b.lo.y b.hi.y m.y d.z m.z d.y hm.y hd.z
    hm.z hd.y in
    let y = least_component-least a.lo.z a.hi.z b.lo.x b.hi.x a.lo.x a.hi.x b.lo.z b.hi.z m.z d.x m.x d.z hm.z hd.x
    hm.x hd.z in
    let z = least_component-least a.lo.x a.hi.x b.lo.y b.hi.y a.lo.y a.hi.y b.lo.x b.hi.x m.x d.y m.y d.x hm.x hd.y
    hm.y hd.x in
    rw (square-is (cross m d)) (omega (arith, x, y, z))

-- ---- the cosine

same_number : (a b : ℕ) → pos a ≡ pos b → a ≡ b
same_number a b h = omega (arith, ints)

-- the product of two squared lengths is the square of the dot product and the squared length of the cross product
squares_add_up : (a b : Vec3)
    → square a * square b ≡ unsigned_abs (dot a b) * unsigned_abs (dot a b) + square (cross a b)
unfolding dot cross
squares_add_up a b =
    let e = lagrange a.x a.y a.z b.x b.y b.z in
    let f : dot a a *ℤ dot b b ≡ dot a b *ℤ dot a b +ℤ dot (cross a b) (cross a b) = e in
    same_number _ _ (rw (dot-self a, dot-self b, dot-self (cross a b), square_is_pos (dot a b)) at f)

-- where a share of p and t is at most p, the same share of a greater number and t is at most that number
greater_stands : (s j p n t : ℕ) → s * (p + t) ≤ (s + j) * p → p ≤ n → s * (n + t) ≤ (s + j) * n
greater_stands s j p n t h more = omega (arith, mul-le j p j n (omega arith) more)

-- a root up to 65536 that p and more allow is allowed by a greater number and less
root_stands : (k p n c t squares : ℕ) → squares ≡ p + c → k ≤ 65536 → k * k * squares ≤ 2 ^ 32 * p → p ≤ n → t ≤ c
    → k * k * (n + t) ≤ 2 ^ 32 * n
root_stands k p n c t squares sum small low more less =
    let most : k * k ≤ 2 ^ 32 = omega (arith, mul-le k k 65536 65536 small small) in
    let whole : k * k + (2 ^ 32 - k * k) ≡ 2 ^ 32 = omega arith in
    let fewer : p + t ≤ squares = omega arith in
    let lower : k * k * (p + t) ≤ 2 ^ 32 * p = le_trans (mul-le-mul_left (k * k) fewer) low in
    let stands = greater_stands (k * k) (2 ^ 32 - k * k) p n t (rw whole lower) more in
    rw whole at stands

pub cos16_below_beside : (n b : Vec3) (top : ℤ) (across : ℕ) → dot n b ≤ℤ top → across ≤ square (cross n b)
    → cos16 n b ≤ cosine_beside top across
unfolding cos16 cosine_at_most
cos16_below_beside n b top across below less =
    ⊎_elim
    (λ (yes : int_lt (pos 0) (dot n b) ≡ true).
    let above = positive_above (dot n b) top yes below in
    let some = positive_sign (dot n b) yes in
    let root = own_root n b some in
    let p = unsigned_abs (dot n b) in
    let q = unsigned_abs top in
    let k = ratio_root (square n * square b) (2 ^ 32 * (p * p)) in
    let more : p * p ≤ q * q = mul-le _ _ _ _ above.1 above.1 in
    let least : 1 ≤ p * p = mul-le 1 1 p p some some in
    let no = eqb_no (q * q + across) 0 (omega arith) in
    let low = ratio_root-low (square n * square b) (2 ^ 32 * (p * p)) in
    let stands = root_stands k (p * p) (q * q) (square (cross n b)) across (square n * square b) (squares_add_up n b)
    root.1 low more less in
    let most = ratio_root-greatest (q * q + across) (2 ^ 32 * (q * q)) k (omega arith) stands in
    rw (yes, above.0, no) (let small = root.1 in omega arith))
    (λ (no : int_lt (pos 0) (dot n b) ≡ false). rw no (omega arith))
    (cases_Bool (int_lt (pos 0) (dot n b)))

-- ---- the laws of the two bounds

min_above : (k a b : ℕ) → k ≤ a → k ≤ b → k ≤ min a b
min_above k a b h g = omega arith

min_small : (a b m : ℕ) → a ≤ m → min a b ≤ m
min_small a b m h = omega arith

own_inside : (n : Vec3) → IsInside (record { lo = n; hi = n }) n
own_inside n = record {
  x = (omega (arith, ints), omega (arith, ints));
  y = (omega (arith, ints), omega (arith, ints));
  z = (omega (arith, ints), omega (arith, ints));
}

pub cos16_below_cos_top2 : (n b : Vec3) (box : SpanEnds) (least : ℕ) → IsInside box b → least ≤ square b
    → cos16 n b ≤ cos_top2 n box least
unfolding cos_top2
cos16_below_cos_top2 n b box least inside small =
    min_above _ _ _ (cos16_below_cos_top n b box least inside small)
    (cos16_below_beside n b (greatest_dot n box) (least_cross (record { lo = n; hi = n }) box)
    (dot_below_greatest n b box inside) (least_cross-least (record { lo = n; hi = n }) box n b (own_inside n) inside))

pub cos16_below_emit_top2 : (m d : Vec3) (normals : SpanEnds) (least_n : ℕ) (offsets : SpanEnds) (least_d : ℕ)
    → IsInside normals m → IsInside offsets d → least_n ≤ square m → least_d ≤ square d
    → cos16 m d ≤ emit_top2 normals least_n offsets least_d
unfolding emit_top2
cos16_below_emit_top2 m d normals least_n offsets least_d hm hd small_n small_d =
    min_above _ _ _ (cos16_below_emit_top m d normals least_n offsets least_d hm hd small_n small_d)
    (cos16_below_beside m d (greatest_dot_of_boxes normals offsets) (least_cross normals offsets)
    (dot_below_greatest_of_boxes m d normals offsets hm hd) (least_cross-least normals offsets m d hm hd))

pub cos_top2-below : (n : Vec3) (box : SpanEnds) (least : ℕ) → cos_top2 n box least ≤ cos_top n box least
unfolding cos_top2
cos_top2-below n box least = min_small (cos_top n box least) _ (cos_top n box least) (omega arith)

pub emit_top2-below : (normals : SpanEnds) (least_n : ℕ) (offsets : SpanEnds) (least_d : ℕ)
    → emit_top2 normals least_n offsets least_d ≤ emit_top normals least_n offsets least_d
unfolding emit_top2
emit_top2-below normals least_n offsets least_d =
    min_small (emit_top normals least_n offsets least_d) _ (emit_top normals least_n offsets least_d) (omega arith)

pub cos_top2-small : (n : Vec3) (box : SpanEnds) (least : ℕ) → cos_top2 n box least ≤ 65536
cos_top2-small n box least = le_trans (cos_top2-below n box least) (cos_top-small n box least)

pub emit_top2-small : (normals : SpanEnds) (least_n : ℕ) (offsets : SpanEnds) (least_d : ℕ)
    → emit_top2 normals least_n offsets least_d ≤ 65536
emit_top2-small normals least_n offsets least_d =
    le_trans (emit_top2-below normals least_n offsets least_d) (emit_top-small normals least_n offsets least_d)

-- ---- the lesser of two cosines as one

-- a greater product of squared lengths gives no greater cosine
pub cosine_falls : (along : ℤ) (a b : ℕ) → a ≤ b → cosine_at_most along b ≤ cosine_at_most along a
unfolding cosine_at_most
cosine_falls along a b h =
    ⊎_elim
    (λ (yes : int_lt (pos 0) along ≡ true).
    ⊎_elim
    (λ (some : 0 < a).
    let no = eqb_no a 0 some in
    let also = eqb_no b 0 (omega arith) in
    let top = 2 ^ 32 * (unsigned_abs along * unsigned_abs along) in
    let rises = ratio_root-rises b a top top some h (omega arith) in
    rw (yes, no, also) (omega arith))
    (λ (none : a ≤ 0).
    let zero_now : a ≡ 0 = omega arith in
    rw (yes, zero_now) (let small = cosine_at_most-small along b in rw yes at small))
    (cases_lt 0 a))
    (λ (no : int_lt (pos 0) along ≡ false). rw no (omega arith))
    (cases_Bool (int_lt (pos 0) along))

pub lesser_cosine_is : (along : ℤ) (a b : ℕ)
    → cosine_at_most along (max a b) ≡ min (cosine_at_most along a) (cosine_at_most along b)
lesser_cosine_is along a b =
    ⊎_elim
    (λ (less : a < b).
    let e : max a b ≡ b = omega arith in let falls = cosine_falls along a b (omega arith) in rw e (omega arith))
    (λ (more : b ≤ a).
    let e : max a b ≡ a = omega arith in let falls = cosine_falls along b a more in rw e (omega arith))
    (cases_lt a b)
