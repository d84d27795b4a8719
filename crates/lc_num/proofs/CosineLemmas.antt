-- What the code of `cos16` asks and gives.
use Rattle.std.proofs.Common.{◌≡◌, ◌*◌, ◌^◌, ◌<◌, ◌≤◌, true, false, arith, refl, ◌∙◌, ⊎_elim, ℤ, pos, negsuc, FitsSigned}
use Rattle.std.specs.Int.RustNames.{unsigned_abs, int_lt, int_le}
use Rattle.std.specs.Int.{w64}
use Rattle.std.proofs.lemmas.Int.{to_z-of_z}
use Rattle.std.proofs.lemmas.Nat.{mul-le}
use Rattle.std.proofs.lemmas.Bool.Decides.{nat_tests}
use Rattle.lc_algebra.specs.Roots.{ratio_root}
use Rattle.lc_algebra.proofs.Machine.{read}
use Rattle.lc_num.specs.Vectors.{Within, dot, square}
use Rattle.lc_num.specs.Cosines.{CanMeasure, cos16}
use Rattle.lc_num.specs.declared.vectors.Vec3.{Vec3}
use Rattle.lc_num.proofs.Triples.{dot_bound}
use Rattle.lc_num.proofs.SquareLemmas.{square_bound, schwarz}

-- what a comparison with zero tells
pub not_positive : (z : ℤ) → int_le z (pos 0) ≡ true → int_lt (pos 0) z ≡ false
not_positive (pos n) h = grind (arith, nat_tests)
not_positive (negsuc n) h = refl

is_positive : (z : ℤ) → int_le z (pos 0) ≡ false → (int_lt (pos 0) z ≡ true) × (0 < unsigned_abs z)
is_positive (pos n) h = (grind (arith, nat_tests), grind (arith, nat_tests))
is_positive (negsuc n) h = cc

pub cos16_none : (n b : Vec3) (r : ℤ) → FitsSigned w64 r → r ≡ dot n b → int_le (read w64 r) (pos 0) ≡ true → 0 ≡ cos16 n b
unfolding cos16
cos16_none n b r f e none =
    let is : read w64 r ≡ dot n b = to_z-of_z w64 r f ∙ e in
    let no = not_positive (dot n b) (rw is at none) in
    rw no refl

pub dot_small : (n b : Vec3) → CanMeasure n b → unsigned_abs (dot n b) ≤ 3 * (16384 * 100_100_000)
dot_small n b h =
    ⊎_elim
    (λ (w : Within 16384 n × Within 100_100_000 b). dot_bound 16384 100_100_000 n b w.0 w.1)
    (λ (w : Within 100_100_000 n × Within 16384 b). dot_bound 100_100_000 16384 n b w.0 w.1)
    h

pub squares_small : (n b : Vec3) → CanMeasure n b → square n * square b ≤ (3 * (16384 * 16384)) * (3 * (100_100_000 * 100_100_000))
squares_small n b h =
    ⊎_elim
    (λ (w : Within 16384 n × Within 100_100_000 b). mul-le _ _ _ _ (square_bound 16384 n w.0) (square_bound 100_100_000 b w.1))
    (λ (w : Within 100_100_000 n × Within 16384 b). let most = mul-le _ _ _ _ (square_bound 100_100_000 n w.0) (square_bound 16384 b w.1) in omega arith)
    h

-- what the code asks of a positive dot product r, and what its root is
pub record CosineCode (n b : Vec3) (r : ℤ) : Type 0 where
  pub along : unsigned_abs (read w64 r) < 2 ^ 43
  pub squares : square n * square b < 2 ^ 86
  pub some : 0 < square n * square b
  pub schwarz : unsigned_abs (read w64 r) * unsigned_abs (read w64 r) ≤ square n * square b
  pub value : ratio_root (square n * square b) (2 ^ 32 * (unsigned_abs (read w64 r) * unsigned_abs (read w64 r))) ≡ cos16 n b

pub cosine_code : (n b : Vec3) (r : ℤ) → CanMeasure n b → FitsSigned w64 r → r ≡ dot n b → int_le (read w64 r) (pos 0) ≡ false → CosineCode n b r
unfolding cos16
cosine_code n b r h f e positive =
    let is : read w64 r ≡ dot n b = to_z-of_z w64 r f ∙ e in
    let sign = is_positive (dot n b) (rw is at positive) in
    let yes : int_lt (pos 0) (dot n b) ≡ true = sign.0 in
    let some : 0 < unsigned_abs (dot n b) = sign.1 in
    let along = dot_small n b h in
    let lengths = squares_small n b h in
    let cauchy = schwarz n b in
    let least = mul-le 1 1 (unsigned_abs (dot n b)) (unsigned_abs (dot n b)) some some in
    record {
      along = rw is (omega arith);
      squares = omega arith;
      some = omega arith;
      schwarz = rw is cauchy;
      value = rw (is, yes) refl;
    }
