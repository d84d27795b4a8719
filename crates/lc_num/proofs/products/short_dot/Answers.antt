use Rattle.std.proofs.Common.{◌^◌}
use Rattle.std.specs.Int.{w64}
use Rattle.lc_num.specs.Vectors.{dot}
use Rattle.lc_num.proofs.Triples.{six, bounds, six_within, two_terms, three_terms}
use Rattle.lc_algebra.proofs.Machine.{fits_step, gives}
use Rattle.lc_num.proofs.products.short_dot.Goals as goal

pub overflow_add-result : goal.overflow_add-result
overflow_add-result c = fits_step w64 (six c.args.a c.args.b) (bounds (2 ^ 30) (2 ^ 30)) (six_within (2 ^ 30) (2 ^ 30) c.args.a c.args.b c.requires.a c.requires.b) two_terms tt

pub overflow_add-result-2 : goal.overflow_add-result-2
overflow_add-result-2 c = fits_step w64 (six c.args.a c.args.b) (bounds (2 ^ 30) (2 ^ 30)) (six_within (2 ^ 30) (2 ^ 30) c.args.a c.args.b c.requires.a c.requires.b) three_terms tt

pub returns : goal.returns
unfolding dot
returns c = gives w64 (six c.args.a c.args.b) (bounds (2 ^ 30) (2 ^ 30)) (six_within (2 ^ 30) (2 ^ 30) c.args.a c.args.b c.requires.a c.requires.b) three_terms tt
