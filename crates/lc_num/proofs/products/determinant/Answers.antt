use Rattle.lc_num.proofs.CrossLemmas.{determinant_fits, determinant_is}
use Rattle.lc_num.proofs.products.determinant.Goals as goal

pub overflow_sub-result : goal.overflow_sub-result
overflow_sub-result c = determinant_fits c.args.a c.args.b c.args.c c.args.d c.requires.a c.requires.b c.requires.c c.requires.d

pub returns : goal.returns
returns c = determinant_is c.args.a c.args.b c.args.c c.args.d c.requires.a c.requires.b c.requires.c c.requires.d
