use Rattle.std.proofs.Common.{rules}
use Rattle.lc_num.specs.Vectors.{cross}
use Rattle.lc_num.proofs.CrossLemmas.{cross_within, determinant_read}
use Rattle.lc_num.proofs.Triples.{same_vector}
use Rattle.lc_num.proofs.products.cross.Goals as goal

pub returns-clause-value : goal.returns-clause-value
unfolding cross
returns-clause-value c =
    same_vector _ _ _ _ _ _
    (determinant_read c.args.a.y c.args.a.z c.args.b.y c.args.b.z c.determinant.result (search rules) (search rules) (search rules) (search rules) (search rules) c.determinant.ensures)
    (determinant_read c.args.a.z c.args.a.x c.args.b.z c.args.b.x c.determinant-2.result (search rules) (search rules) (search rules) (search rules) (search rules) c.determinant-2.ensures)
    (determinant_read c.args.a.x c.args.a.y c.args.b.x c.args.b.y c.determinant-3.result (search rules) (search rules) (search rules) (search rules) (search rules) c.determinant-3.ensures)

pub returns-clause-within : goal.returns-clause-within
returns-clause-within c m n ha hb = rw (returns-clause-value c) (cross_within m n c.args.a c.args.b ha hb)
