-- What is added up for each input.
use Rattle.std.specs.Prelude.{ℕ, ◌+◌, unsigned_abs}
use Rattle.lc_num.specs.Cosines.{scaled, cos16}
use Rattle.bench_terms.specs.declared.inputs.Offset.{Offset}
use Rattle.bench_terms.specs.declared.inputs.Pair.{Pair}

-- the absolute values of the components of the vector at length 16384
abbrev pub length_sum : Offset → ℕ
length_sum o =
    unsigned_abs (scaled o.vector 16384).x + unsigned_abs (scaled o.vector 16384).y + unsigned_abs
    (scaled o.vector 16384).z

abbrev pub cosine_of : Pair → ℕ
cosine_of p = cos16 p.normal p.offset
