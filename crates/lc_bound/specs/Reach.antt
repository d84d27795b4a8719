-- Terms of a factor, and bounds of them over a box.
use Rattle.std.specs.Prelude.{ℕ, ◌*◌, ◌/◌, ◌^◌, max}
use Rattle.lc_num.specs.Boxes.{SpanEnds, cos_top, emit_top}
use Rattle.lc_num.specs.Crosses.{cos_top2, emit_top2}
use Rattle.lc_num.specs.declared.channels.Rgb.{Rgb}
use Rattle.lc_num.specs.declared.rules.Rule.{Rule}
use Rattle.lc_num.specs.declared.rules.Rule.TheVariants as rule
use Rattle.lc_num.specs.declared.vectors.Vec3.{Vec3}
use Rattle.lc_terms.specs.Factor.{material_by}
use Rattle.lc_terms.specs.declared.spot.Spot.{Spot}

-- the geometric term at a squared distance; a distance below a hundredth counts as a hundredth
abbrev pub falloff : ℕ → ℕ
falloff square = 10 ^ 17 / max square (10 ^ 4)

-- the geometric term of a light that leaves its surface at a cosine in 1/65536, from that of a light without a surface
abbrev pub emitted : ℕ → ℕ → ℕ
emitted cosine geometry = cosine * geometry / 65536

-- a bound of the cosine from a vector to those of the box whose squared length is at least `least`
abbrev pub cosine_top : Rule → Vec3 → SpanEnds → ℕ → ℕ
cosine_top rule.One n box least = cos_top n box least
cosine_top rule.Two n box least = cos_top2 n box least

-- a bound of the cosine from the normals of a box to the offsets of another, where their squared lengths are at least
-- `least_n` and `least_d`
abbrev pub emission_top : Rule → SpanEnds → ℕ → SpanEnds → ℕ → ℕ
emission_top rule.One normals least_n offsets least_d = emit_top normals least_n offsets least_d
emission_top rule.Two normals least_n offsets least_d = emit_top2 normals least_n offsets least_d

-- a bound of the material term of a spot for light from the vectors of the box whose squared length is at least
-- `least`: the term at the greatest cosines to the normal and to the mirrored view
abbrev pub material_top : Spot → SpanEnds → ℕ → Rule → Rgb
material_top spot box least r = material_by spot (cosine_top r spot.n box least) (cosine_top r spot.r box least)
