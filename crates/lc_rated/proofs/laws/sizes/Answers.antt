use Rattle.std.proofs.Common.{arith}
use Rattle.lc_rated.proofs.CutLimits.{est_small, bound_small, key_small}
use Rattle.lc_rated.proofs.laws.sizes.Goals as goal

pub returns : goal.returns
returns c = record {
  est = est_small;
  bound = λ channel trees k none. bound_small channel none trees k;
  thousandfold = λ n h. omega (arith, h);
  key = key_small;
}
