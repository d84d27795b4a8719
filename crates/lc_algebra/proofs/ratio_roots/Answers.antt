use Rattle.std.proofs.Common.{le_refl}
use Rattle.lc_algebra.proofs.Roots.{ratio_root-low, ratio_root-greatest, ratio_root-only, ratio_root-rises, isqrt-of_quotient}
use Rattle.lc_algebra.proofs.ratio_roots.Goals as goal

pub returns : goal.returns
returns c = record {
  low = ratio_root-low;
  greatest = ratio_root-greatest;
  only = ratio_root-only;
  rises = λ c m n positive more. ratio_root-rises c c m n positive (le_refl c) more;
  falls = λ c d n positive less. ratio_root-rises c d n n positive less (le_refl n);
  quotient = λ c n positive. isqrt-of_quotient n c positive;
}
