-- Bounds over a box are at least the terms that they bound.
use Rattle.std.proofs.Common.{◌≡◌, ℕ, ◌+◌, ◌*◌, ◌/◌, ◌^◌, ◌<◌, ◌≤◌, max, arith, le_trans, ⊎_elim}
use Rattle.std.proofs.lemmas.Nat.{le-div, mul-le}
use Rattle.std.proofs.lemmas.Bool.{cases_lt}
use Rattle.std.proofs.Math.Nat.{div-mul-le_self, le-div_iff_mul-le, mul-div-le, mul-le-mul_left}
use Rattle.lc_num.specs.Channels.{IsRgbWithin, times, IsAtMost}
use Rattle.lc_num.specs.Cosines.{cos16}
use Rattle.lc_num.specs.Powers.{pow16}
use Rattle.lc_num.specs.Vectors.{square}
use Rattle.lc_num.specs.Boxes.{SpanEnds, IsInside}
use Rattle.lc_num.specs.declared.vectors.Vec3.{Vec3}
use Rattle.lc_num.specs.declared.channels.Rgb.{Rgb}
use Rattle.lc_num.specs.declared.rules.Rule.{Rule}
use Rattle.lc_num.specs.declared.rules.Rule.TheVariants as rule
use Rattle.lc_num.proofs.CosineLaw.{cos16_below_cos_top, cos16_below_emit_top, cos_top-small, emit_top-small}
use Rattle.lc_num.proofs.CrossLaw.{cos16_below_cos_top2, cos16_below_emit_top2, cos_top2-below, cos_top2-small, emit_top2-below, emit_top2-small}
use Rattle.lc_num.proofs.PowerLemmas.{pow16-rises, pow16-most}
use Rattle.lc_terms.specs.Factor.{material, material_by, reflected}
use Rattle.lc_terms.specs.SeenLaws.{black-below}
use Rattle.lc_terms.proofs.Reflecting.{material-dark, material-of_lit}
use Rattle.lc_terms.specs.Spot.{IsSpot}
use Rattle.lc_terms.specs.declared.spot.Spot.{Spot}
use Rattle.lc_bound.specs.Reach.{cosine_top, emission_top, emitted, falloff, material_top}

-- a quotient by a greater number is no greater
quotient_falls : (n c d : ℕ) → 0 < c → c ≤ d → n / d ≤ n / c
quotient_falls n c d positive more =
    (le-div_iff_mul-le positive).1 (le_trans (mul-le-mul_left (n / d) more) (omega (arith, mul-div-le n d)))

pub falloff-falls : (near far : ℕ) → near ≤ far → falloff far ≤ falloff near
falloff-falls near far h = quotient_falls (10 ^ 17) (max near (10 ^ 4)) (max far (10 ^ 4)) (omega arith) (omega arith)

pub falloff-small : (square : ℕ) → falloff square ≤ 10 ^ 13
falloff-small square = quotient_falls (10 ^ 17) (10 ^ 4) (max square (10 ^ 4)) (omega arith) (omega arith)

pub emitted-rises : (c d g h : ℕ) → c ≤ d → g ≤ h → emitted c g ≤ emitted d h
emitted-rises c d g h more_cosine more =
    le-div (c * g / 65536) (d * h) 65536 (omega arith)
    (le_trans (div-mul-le_self (c * g) 65536) (mul-le c g d h more_cosine more))

pub emitted-small : (cosine geometry : ℕ) → cosine ≤ 65536 → geometry ≤ 10 ^ 13 → emitted cosine geometry ≤ 10 ^ 13
emitted-small cosine geometry small most = emitted-rises cosine 65536 geometry (10 ^ 13) small most

-- ---- the material term by its two cosines

share-rises : (d c e s h k : ℕ) → c ≤ e → h ≤ k → d * c + s * h ≤ d * e + s * k
share-rises d c e s h k more higher = omega (arith, mul-le-mul_left d more, mul-le-mul_left s higher)

reflected-rises : (spot : Spot) (c e h k : ℕ) → c ≤ e → h ≤ k → IsAtMost (reflected spot e k) (reflected spot c h)
reflected-rises spot c e h k more higher = record {
  r = share-rises spot.kd.r c e spot.ks.r h k more higher;
  g = share-rises spot.kd.g c e spot.ks.g h k more higher;
  b = share-rises spot.kd.b c e spot.ks.b h k more higher;
}

material-rises : (spot : Spot) (c e m k : ℕ) → c ≤ e → m ≤ k → IsAtMost (material_by spot e k) (material_by spot c m)
material-rises spot c e m k more higher =
    ⊎_elim
    (λ (lit : 0 < c). let lit_too : 0 < e = omega arith in
    rw (material-of_lit spot c m lit, material-of_lit spot e k lit_too)
    (reflected-rises spot c e (pow16 m spot.ns) (pow16 k spot.ns) more (pow16-rises m k spot.ns higher)))
    (λ (dark : c ≤ 0). let none : c ≡ 0 = omega arith in
    rw (← material-dark spot c m none) (black-below (material_by spot e k)))
    (cases_lt 0 c)

share-small : (d c s h : ℕ) → d ≤ 10_000 → c ≤ 65_536 → s ≤ 10_000 → h ≤ 65_536 → d * c + s * h ≤ 20_000 * 65_536
share-small d c s h hd hc hs hh = omega (arith, mul-le d c 10_000 65_536 hd hc, mul-le s h 10_000 65_536 hs hh)

reflected-small : (spot : Spot) (c h : ℕ) → IsSpot spot → c ≤ 65_536 → h ≤ 65_536
    → IsRgbWithin (20_000 * 65_536) (reflected spot c h)
reflected-small spot c h valid hc hh = record {
  r = share-small spot.kd.r c spot.ks.r h valid.kd.r hc valid.ks.r hh;
  g = share-small spot.kd.g c spot.ks.g h valid.kd.g hc valid.ks.g hh;
  b = share-small spot.kd.b c spot.ks.b h valid.kd.b hc valid.ks.b hh;
}

material-small : (spot : Spot) (c m : ℕ) → IsSpot spot → c ≤ 65_536 → m ≤ 65_536
    → IsRgbWithin (20_000 * 65_536) (material_by spot c m)
material-small spot c m valid hc hm =
    ⊎_elim
    (λ (lit : 0 < c). rw (material-of_lit spot c m lit)
    (reflected-small spot c (pow16 m spot.ns) valid hc (pow16-most m spot.ns hm)))
    (λ (dark : c ≤ 0). let none : c ≡ 0 = omega arith in
    rw (← material-dark spot c m none) (record { r = omega arith; g = omega arith; b = omega arith }))
    (cases_lt 0 c)

-- ---- bounds of cosines under both rules

cosine-below : (r : Rule) (n b : Vec3) (box : SpanEnds) (least : ℕ) → IsInside box b → least ≤ square b
    → cos16 n b ≤ cosine_top r n box least
cosine-below rule.One n b box least inside long = cos16_below_cos_top n b box least inside long
cosine-below rule.Two n b box least inside long = cos16_below_cos_top2 n b box least inside long

cosine_top-small : (r : Rule) (n : Vec3) (box : SpanEnds) (least : ℕ) → cosine_top r n box least ≤ 65536
cosine_top-small rule.One n box least = cos_top-small n box least
cosine_top-small rule.Two n box least = cos_top2-small n box least

pub emission-below : (r : Rule) (m d : Vec3) (normals : SpanEnds) (least_n : ℕ) (offsets : SpanEnds) (least_d : ℕ)
    → IsInside normals m → IsInside offsets d → least_n ≤ square m → least_d ≤ square d
    → cos16 m d ≤ emission_top r normals least_n offsets least_d
emission-below rule.One m d normals least_n offsets least_d hm hd long_n long_d =
    cos16_below_emit_top m d normals least_n offsets least_d hm hd long_n long_d
emission-below rule.Two m d normals least_n offsets least_d hm hd long_n long_d =
    cos16_below_emit_top2 m d normals least_n offsets least_d hm hd long_n long_d

pub emission_top-small : (r : Rule) (normals : SpanEnds) (least_n : ℕ) (offsets : SpanEnds) (least_d : ℕ)
    → emission_top r normals least_n offsets least_d ≤ 65536
emission_top-small rule.One normals least_n offsets least_d = emit_top-small normals least_n offsets least_d
emission_top-small rule.Two normals least_n offsets least_d = emit_top2-small normals least_n offsets least_d

-- ---- the material bound

-- the light from a vector of the box that is not shorter than `least`
pub material-below : (spot : Spot) (box : SpanEnds) (least : ℕ) (r : Rule) (b : Vec3) → IsInside box b
    → least ≤ square b → IsAtMost (material_top spot box least r) (material spot b)
material-below spot box least r b inside long =
    material-rises spot (cos16 spot.n b) (cosine_top r spot.n box least) (cos16 spot.r b)
    (cosine_top r spot.r box least)
    (cosine-below r spot.n b box least inside long)
    (cosine-below r spot.r b box least inside long)

pub material_top-small : (spot : Spot) (box : SpanEnds) (least : ℕ) (r : Rule) → IsSpot spot
    → IsRgbWithin (20_000 * 65_536) (material_top spot box least r)
material_top-small spot box least r h =
    material-small spot (cosine_top r spot.n box least) (cosine_top r spot.r box least) h
    (cosine_top-small r spot.n box least) (cosine_top-small r spot.r box least)

-- the second rule's is nowhere above the first one's
pub material_top-sharper : (spot : Spot) (box : SpanEnds) (least : ℕ)
    → IsAtMost (material_top spot box least rule.One) (material_top spot box least rule.Two)
material_top-sharper spot box least =
    material-rises spot (cosine_top rule.Two spot.n box least) (cosine_top rule.One spot.n box least)
    (cosine_top rule.Two spot.r box least) (cosine_top rule.One spot.r box least)
    (cos_top2-below spot.n box least)
    (cos_top2-below spot.r box least)

pub emission_top-sharper : (normals : SpanEnds) (least_n : ℕ) (offsets : SpanEnds) (least_d : ℕ)
    → emission_top rule.Two normals least_n offsets least_d ≤ emission_top rule.One normals least_n offsets least_d
emission_top-sharper normals least_n offsets least_d = emit_top2-below normals least_n offsets least_d

-- a product of greater terms is no smaller
pub times-rises : (g h : ℕ) (c d : Rgb) → g ≤ h → IsAtMost d c → IsAtMost (times h d) (times g c)
times-rises g h c d more rises =
    record { r = mul-le _ _ h _ more rises.r; g = mul-le _ _ h _ more rises.g; b = mul-le _ _ h _ more rises.b }

pub times-small : (g : ℕ) (c : Rgb) → g ≤ 10 ^ 13 → IsRgbWithin (20_000 * 65_536) c
    → IsRgbWithin (20_000 * 65_536 * 10 ^ 13) (times g c)
times-small g c small h = record {
  r = omega (arith, mul-le _ _ (10 ^ 13) (20_000 * 65_536) small h.r);
  g = omega (arith, mul-le _ _ (10 ^ 13) (20_000 * 65_536) small h.g);
  b = omega (arith, mul-le _ _ (10 ^ 13) (20_000 * 65_536) small h.b);
}
