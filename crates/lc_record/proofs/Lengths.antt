-- How many bytes the numbers of a record take.
use Rattle.std.proofs.Common.{ℕ, ◌-◌, ◌^◌, ◌<◌, ◌≤◌, arith, length, decimal}
use Rattle.std.proofs.lemmas.Fmt.{length-decimal-le_wide}
use Rattle.lc_rated.specs.declared.answer.Answer.{Answer}
use Rattle.lc_record.specs.Record.{IsSample}

-- a number of 32 bits has at most 10 digits, and one below 2^117 at most 36
pub count_length : (n : ℕ) → n < 2 ^ 32 → length (decimal n) ≤ 10
count_length n small = length-decimal-le_wide 10 n (omega arith) (omega arith) (omega arith)

sum_length : (n : ℕ) → n ≤ 2 ^ 117 - 1 → length (decimal n) ≤ 36
sum_length n small = length-decimal-le_wide 36 n (omega arith) (omega arith) (omega arith)

-- how many digits each number of a sample has at most
pub record AreShort (a : Answer) : Type 0 where
  pub size : length (decimal a.size) ≤ 5
  pub evals : length (decimal a.evals) ≤ 6
  pub est_r : length (decimal a.est.r) ≤ 36
  pub est_g : length (decimal a.est.g) ≤ 36
  pub est_b : length (decimal a.est.b) ≤ 36
  pub bound_r : length (decimal a.bound.r) ≤ 36
  pub bound_g : length (decimal a.bound.g) ≤ 36
  pub bound_b : length (decimal a.bound.b) ≤ 36

pub numbers_short : (a : Answer) → IsSample 65536 a → AreShort a
numbers_short a h = record {
  size = length-decimal-le_wide 5 a.size (omega arith) (omega (arith, h.size)) (omega (arith, h.size));
  evals = length-decimal-le_wide 6 a.evals (omega arith) (omega (arith, h.evals)) (omega (arith, h.evals));
  est_r = sum_length a.est.r h.est.r;
  est_g = sum_length a.est.g h.est.g;
  est_b = sum_length a.est.b h.est.b;
  bound_r = sum_length a.bound.r h.bound.r;
  bound_g = sum_length a.bound.g h.bound.g;
  bound_b = sum_length a.bound.b h.bound.b;
}
