use Rattle.std.proofs.Common.{arith}
use Rattle.std.proofs.lemmas.Result.{err_from_is_err_and}
use Rattle.lc_obj.proofs.ValueLemmas.{wrong_vector, no_room_for_vector, vector_passes}
use Rattle.lc_obj.proofs.values.vector_after.Goals as goal

pub returns-in_err-v-clause-value : goal.returns-in_err-v-clause-value
returns-in_err-v-clause-value c =
    let p = err_from_is_err_and c.from_residual.result c.from_residual.ensures.1 in
    rw (p.1, p.2) (wrong_vector c.args.so_far c.args.values.now _ (omega arith) c.in_err-v.ensures.value)

pub returns-then-so_far-eq-MOST_ITEMS-clause-value : goal.returns-then-so_far-eq-MOST_ITEMS-clause-value
returns-then-so_far-eq-MOST_ITEMS-clause-value c =
    no_room_for_vector c.args.so_far c.args.values.now (omega arith) c.in_ok-v.ensures.value.0 (omega arith)

pub returns-clause-value : goal.returns-clause-value
returns-clause-value c =
    (vector_passes c.args.so_far c.args.values.now (omega arith) c.in_ok-v.ensures.value.0 (omega arith), c.in_ok-v.ensures.value.1)
