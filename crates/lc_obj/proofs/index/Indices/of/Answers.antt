use Rattle.std.proofs.Common.{sym}
use Rattle.lc_obj.proofs.CornerLemmas.{too_many_parts}
use Rattle.lc_obj.proofs.index.Indices.of.Goals as goal

pub returns-in_default-rest-2 : goal.returns-in_default-rest-2
returns-in_default-rest-2 c =
    sym
    (too_many_parts c.args.corner.now c.in-Some.rest.now c.in-Some-rest.rest.now c.in_default-rest-2.field-0.now c.first_part.result.0.now c.first_part-2.result.0.now c.first_part-3.result.0.now (rw c.in-Some.is at c.first_part.ensures)
    (rw c.in-Some-rest.is at c.first_part-2.ensures) (rw c.in_default-rest-2.is at c.first_part-3.ensures))
