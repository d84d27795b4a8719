use Rattle.lc_sample.proofs.NormalLemmas.{pair_fits, last_fits, mixed_fits, mixed_is, mixed_small}
use Rattle.lc_sample.proofs.normal.mixed.Goals as goal

pub overflow_add-result : goal.overflow_add-result
overflow_add-result c = pair_fits c.args.u c.args.v c.args.w c.args.a c.args.b c.args.c c.requires.u c.requires.v c.requires.w c.requires.a c.requires.b c.requires.c

pub overflow_mul-result-3 : goal.overflow_mul-result-3
overflow_mul-result-3 c = last_fits c.args.u c.args.v c.args.w c.args.a c.args.b c.args.c c.requires.u c.requires.v c.requires.w c.requires.a c.requires.b c.requires.c

pub overflow_add-result-2 : goal.overflow_add-result-2
overflow_add-result-2 c = mixed_fits c.args.u c.args.v c.args.w c.args.a c.args.b c.args.c c.requires.u c.requires.v c.requires.w c.requires.a c.requires.b c.requires.c

pub returns-clause-value : goal.returns-clause-value
returns-clause-value c = mixed_is c.args.u c.args.v c.args.w c.args.a c.args.b c.args.c c.requires.u c.requires.v c.requires.w c.requires.a c.requires.b c.requires.c

pub returns-clause-most : goal.returns-clause-most
returns-clause-most c =
    rw (returns-clause-value c)
    (mixed_small c.args.u c.args.v c.args.w c.args.a c.args.b c.args.c c.requires.u c.requires.v c.requires.w c.requires.a c.requires.b c.requires.c)
