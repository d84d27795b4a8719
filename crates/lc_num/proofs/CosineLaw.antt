-- A bound over a box is at least the cosine of each vector of the box.
use Rattle.std.proofs.Common.{◌≡◌, ℕ, ◌*◌, ◌^◌, ◌<◌, ◌≤◌, true, false, arith, ⊎_elim, ℤ, pos, negsuc, ◌≤ℤ◌}
use Rattle.std.specs.Int.RustNames.{unsigned_abs, int_lt}
use Rattle.std.proofs.lemmas.Int.{ints}
use Rattle.std.proofs.lemmas.Nat.{mul-le}
use Rattle.std.proofs.lemmas.Bool.{cases_Bool, cases_lt}
use Rattle.std.proofs.lemmas.Bool.Decides.{nat_tests}
use Rattle.std.proofs.Math.Nat.{mul-le-mul_left}
use Rattle.lc_algebra.specs.Roots.{ratio_root}
use Rattle.lc_algebra.proofs.Roots.{ratio_root-rises, ratio_root-at_most}
use Rattle.lc_num.specs.Vectors.{dot, square}
use Rattle.lc_num.specs.Cosines.{cos16, cosine_at_most}
use Rattle.lc_num.specs.Boxes.{SpanEnds, IsInside, greatest_dot, greatest_dot_of_boxes, cos_top, emit_top}
use Rattle.lc_num.specs.declared.vectors.Vec3.{Vec3}
use Rattle.lc_num.proofs.SquareLemmas.{schwarz}
use Rattle.lc_num.proofs.ScaledLemmas.{eqb_no}
use Rattle.lc_num.proofs.BoxLemmas.{dot_below_greatest, dot_below_greatest_of_boxes}

pub positive_sign : (z : ℤ) → int_lt (pos 0) z ≡ true → 0 < unsigned_abs z
positive_sign (pos n) h = grind (arith, nat_tests)
positive_sign (negsuc n) h = cc

pub positive_above : (a b : ℤ) → int_lt (pos 0) a ≡ true → a ≤ℤ b → (int_lt (pos 0) b ≡ true) × (unsigned_abs a ≤ unsigned_abs b)
positive_above a b h k = (grind (arith, ints), omega (arith, ints))

-- the root of a positive dot product, which the inequality of Cauchy and Schwarz bounds
pub own_root : (n b : Vec3) → 0 < unsigned_abs (dot n b) → (0 < square n * square b) × (ratio_root (square n * square b) (2 ^ 32 * (unsigned_abs (dot n b) * unsigned_abs (dot n b))) ≤ 65536)
own_root n b some =
    let cauchy = schwarz n b in
    let least = mul-le 1 1 (unsigned_abs (dot n b)) (unsigned_abs (dot n b)) some some in
    let positive : 0 < square n * square b = omega arith in
    (positive, ratio_root-at_most _ _ 65536 (omega arith))

pub cos16-small : (n b : Vec3) → cos16 n b ≤ 65536
unfolding cos16
cos16-small n b =
    ⊎_elim
    (λ (yes : int_lt (pos 0) (dot n b) ≡ true). rw yes (own_root n b (positive_sign (dot n b) yes)).1)
    (λ (no : int_lt (pos 0) (dot n b) ≡ false). rw no (omega arith))
    (cases_Bool (int_lt (pos 0) (dot n b)))

-- a greater dot product over a smaller product of squared lengths gives no smaller cosine
pub cos16_below : (n b : Vec3) (top : ℤ) (squares : ℕ) → dot n b ≤ℤ top → squares ≤ square n * square b → cos16 n b ≤ cosine_at_most top squares
unfolding cos16 cosine_at_most
cos16_below n b top squares below least =
    ⊎_elim
    (λ (yes : int_lt (pos 0) (dot n b) ≡ true).
    let above = positive_above (dot n b) top yes below in
    let root = own_root n b (positive_sign (dot n b) yes) in
    ⊎_elim
    (λ (some : 0 < squares).
    let no = eqb_no squares 0 some in
    let rises = ratio_root-rises (square n * square b) squares _ (2 ^ 32 * (unsigned_abs top * unsigned_abs top)) some least (mul-le-mul_left (2 ^ 32) (mul-le _ _ _ _ above.1 above.1)) in
    rw (yes, above.0, no) (let small = root.1 in omega arith))
    (λ (none : squares ≤ 0). let zero_now : squares ≡ 0 = omega arith in rw (yes, above.0, zero_now) root.1)
    (cases_lt 0 squares))
    (λ (no : int_lt (pos 0) (dot n b) ≡ false). rw no (omega arith))
    (cases_Bool (int_lt (pos 0) (dot n b)))

pub cos16_below_cos_top : (n b : Vec3) (box : SpanEnds) (least : ℕ) → IsInside box b → least ≤ square b → cos16 n b ≤ cos_top n box least
unfolding cos_top
cos16_below_cos_top n b box least inside small =
    cos16_below n b (greatest_dot n box) (square n * least) (dot_below_greatest n b box inside) (mul-le-mul_left (square n) small)

pub cos16_below_emit_top : (m d : Vec3) (normals : SpanEnds) (least_n : ℕ) (offsets : SpanEnds) (least_d : ℕ)
    → IsInside normals m → IsInside offsets d → least_n ≤ square m → least_d ≤ square d → cos16 m d ≤ emit_top normals least_n offsets least_d
unfolding emit_top
cos16_below_emit_top m d normals least_n offsets least_d hm hd small_n small_d =
    cos16_below m d (greatest_dot_of_boxes normals offsets) (least_n * least_d) (dot_below_greatest_of_boxes m d normals offsets hm hd) (mul-le least_n least_d (square m) (square d) small_n small_d)

pub cosine_at_most-small : (along : ℤ) (squares : ℕ) → cosine_at_most along squares ≤ 65536
unfolding cosine_at_most
cosine_at_most-small along squares =
    ⊎_elim
    (λ (yes : int_lt (pos 0) along ≡ true).
    ⊎_elim
    (λ (some : 0 < squares). let no = eqb_no squares 0 some in rw (yes, no) (omega arith))
    (λ (empty : squares ≤ 0). let zero_now : squares ≡ 0 = omega arith in rw (yes, zero_now) (omega arith))
    (cases_lt 0 squares))
    (λ (no : int_lt (pos 0) along ≡ false). rw no (omega arith))
    (cases_Bool (int_lt (pos 0) along))

pub cos_top-small : (n : Vec3) (box : SpanEnds) (least : ℕ) → cos_top n box least ≤ 65536
unfolding cos_top
cos_top-small n box least = cosine_at_most-small (greatest_dot n box) (square n * least)

pub emit_top-small : (normals : SpanEnds) (least_n : ℕ) (offsets : SpanEnds) (least_d : ℕ) → emit_top normals least_n offsets least_d ≤ 65536
unfolding emit_top
emit_top-small normals least_n offsets least_d = cosine_at_most-small (greatest_dot_of_boxes normals offsets) (least_n * least_d)
