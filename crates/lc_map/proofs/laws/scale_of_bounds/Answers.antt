use Rattle.std.proofs.Common.{◌≡◌, ℕ, false, arith}
use Rattle.std.proofs.lemmas.Bool.Decides.{nat_tests}
use Rattle.std.specs.List.{list_any}
use Rattle.lc_algebra.proofs.Greatest.{greatest_up_to-greatest}
use Rattle.lc_rated.specs.Cuts.{IsFraction}
use Rattle.lc_rated.specs.declared.answer.Answer.{Answer}
use Rattle.lc_map.specs.Map.{bound_byte}
use Rattle.lc_map.specs.Scale.{misses, sample_reaches}
use Rattle.lc_map.proofs.Greatest.{greatest-passes}
use Rattle.lc_map.proofs.Shares.{share-doubles, share-le}
use Rattle.lc_map.proofs.laws.scale_of_bounds.Goals as goal

within : (permille : ℕ) (a : Answer) → misses permille a ≡ false → IsFraction permille a
within permille a e = record { red = grind (arith, nat_tests); green = grind (arith, nat_tests); blue = grind (arith, nat_tests) }

not_missed : (permille : ℕ) (a : Answer) → IsFraction permille a → misses permille a ≡ false
not_missed permille a is = grind (arith, nat_tests)

pub returns : goal.returns
unfolding bound_byte
returns c = record {
  doubles = share-doubles;
  rises = share-le;
  greatest = λ samples byte most passes. greatest_up_to-greatest (λ b. list_any (sample_reaches b) samples) 255 byte most passes;
  reached = λ samples some. greatest-passes (λ b. list_any (sample_reaches b) samples) 255 some;
  missed = λ permille a. (within permille a, not_missed permille a);
}
