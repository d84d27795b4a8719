use Rattle.std.proofs.Common.{arith}
use Rattle.lc_rated.proofs.CutLimits.{key_small}
use Rattle.lc_cut.specs.Forest.{trees_of}
use Rattle.lc_cut.proofs.Whole.{trees_limited}
use Rattle.lc_cut.proofs.SumLimits.{est_within, bound_within, plain_within}
use Rattle.lc_cut.proofs.laws.sums_fit.Goals as goal

pub returns : goal.returns
returns c = record {
  est = λ ts spot r forest k hs h. est_within (trees_of ts spot r forest) k (trees_limited ts spot hs r forest h);
  bound = λ ts spot r forest k hs h. bound_within (trees_of ts spot r forest) k (trees_limited ts spot hs r forest h);
  lights = plain_within;
  key = λ ts spot r forest k hs h. key_small (trees_of ts spot r forest) k (trees_limited ts spot hs r forest h);
  thousandfold = λ n h. omega arith;
}
