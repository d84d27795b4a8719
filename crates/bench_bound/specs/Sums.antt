-- What is added up for each input.
use Rattle.std.specs.Prelude.{ℕ, ◌+◌}
use Rattle.lc_num.specs.Boxes.{emit_top}
use Rattle.lc_num.specs.declared.channels.Rgb.{Rgb}
use Rattle.lc_num.specs.declared.rules.Rule.{Rule}
use Rattle.lc_terms.specs.Factor.{material}
use Rattle.lc_bound.specs.Omni.{top}
use Rattle.lc_bound.specs.Oriented.{top as oriented_top}
use Rattle.bench_bound.specs.declared.inputs.Case.{Case}
use Rattle.bench_bound.specs.declared.inputs.OrientedCase.{OrientedCase}
use Rattle.bench_bound.specs.declared.inputs.Emission.{Emission}
use Rattle.bench_bound.specs.declared.inputs.Reflection.{Reflection}

-- the bound's three channels
abbrev channels : Rgb → ℕ
channels c = c.r + c.g + c.b

abbrev pub top_sum : Rule → Case → ℕ
top_sum r k = channels (top k.spot k.clump r)

abbrev pub oriented_sum : Rule → OrientedCase → ℕ
oriented_sum r k = channels (oriented_top k.spot k.clump r)

abbrev pub material_sum : Reflection → ℕ
material_sum l = channels (material l.spot l.b)

abbrev pub emission_of : Emission → ℕ
emission_of e = emit_top e.normals e.least_n e.offsets e.least_d
