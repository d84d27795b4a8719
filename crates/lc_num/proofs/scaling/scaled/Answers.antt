use Rattle.std.proofs.Common.{◌≡◌, ◌<◌, rules, FitsSigned, arith}
use Rattle.std.specs.Int.{w64}
use Rattle.std.proofs.lemmas.Int.{to_z-of_z}
use Rattle.lc_algebra.specs.Roots.{isqrt}
use Rattle.lc_num.specs.Vectors.{square}
use Rattle.lc_num.proofs.ScaledLemmas.{scaled_zero, scaled_parts, scaled_within, below_length, part_read}
use Rattle.lc_num.proofs.scaling.scaled.Goals as goal

pub returns-then-length-eq0-clause-value : goal.returns-then-length-eq0-clause-value
returns-then-length-eq0-clause-value c =
    scaled_zero c.args.v c.args.l (let e : c.length_of-length.result ≡ isqrt (square c.args.v) = c.length_of-length.ensures in cc)

pub part-requires-clause-a : goal.part-requires-clause-a
part-requires-clause-a c =
    let f : FitsSigned w64 c.args.v.x = search rules in
    rw (to_z-of_z w64 _ f, c.length_of-length.ensures) (below_length c.args.v).x

pub part-requires-2-clause-a : goal.part-requires-2-clause-a
part-requires-2-clause-a c =
    let f : FitsSigned w64 c.args.v.y = search rules in
    rw (to_z-of_z w64 _ f, c.length_of-length.ensures) (below_length c.args.v).y

pub part-requires-3-clause-a : goal.part-requires-3-clause-a
part-requires-3-clause-a c =
    let f : FitsSigned w64 c.args.v.z = search rules in
    rw (to_z-of_z w64 _ f, c.length_of-length.ensures) (below_length c.args.v).z

pub returns-clause-value : goal.returns-clause-value
returns-clause-value c =
    let length : c.length_of-length.result ≡ isqrt (square c.args.v) = c.length_of-length.ensures in
    let some : 0 < isqrt (square c.args.v) = omega arith in
    let x = part_read c.args.l c.length_of-length.result (isqrt (square c.args.v)) c.args.v.x c.part.result (search rules) (search rules) length c.part.ensures in
    let y = part_read c.args.l c.length_of-length.result (isqrt (square c.args.v)) c.args.v.y c.part-2.result (search rules) (search rules) length c.part-2.ensures in
    let z = part_read c.args.l c.length_of-length.result (isqrt (square c.args.v)) c.args.v.z c.part-3.result (search rules) (search rules) length c.part-3.ensures in
    let whole = scaled_parts c.args.v c.args.l some in
    cc

pub returns-clause-within : goal.returns-clause-within
returns-clause-within c = rw (returns-clause-value c) (scaled_within c.args.v c.args.l)
