use Rattle.std.proofs.Common.{◌≡◌, ◌^◌, ◌≤◌, arith, ap, ◌∙◌}
use Rattle.std.specs.Int.{w64, w128}
use Rattle.std.specs.Int.RustNames.{unsigned_abs}
use Rattle.std.proofs.lemmas.Int.{fits_signed_from_abs}
use Rattle.lc_algebra.proofs.Machine.{read, read_small}
use Rattle.lc_num.proofs.Triples.{dot_bound}
use Rattle.lc_sample.proofs.spot.dot_of_normals.Goals as goal

small : (c : goal.After-dot) → unsigned_abs c.dot.result ≤ 2 ^ 30
small c = rw c.dot.ensures (omega (arith, dot_bound 16384 16384 c.args.a c.args.b c.requires.a c.requires.b))

read_twice : (c : goal.After-dot) → read w64 (read w128 c.dot.result) ≡ c.dot.result
read_twice c = ap (read w64) (read_small w128 c.dot.result (omega (arith, small c))) ∙ read_small w64 c.dot.result (omega (arith, small c))

pub overflow_cast-result : goal.overflow_cast-result
overflow_cast-result c = rw (read_small w128 c.dot.result (omega (arith, small c))) (fits_signed_from_abs w64 c.dot.result (omega (arith, small c)))

pub returns-clause-value : goal.returns-clause-value
returns-clause-value c = read_twice c ∙ c.dot.ensures

pub returns-clause-most : goal.returns-clause-most
returns-clause-most c = rw (read_twice c) (small c)
