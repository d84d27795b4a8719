-- Laws of the greatest number that passes a test.
use Rattle.std.proofs.Common.{◌≡◌, ℕ, zero, suc, ◌≤◌, Bool, true, false, arith, ⊎_elim, subst, le_antisymm}
use Rattle.std.proofs.lemmas.Bool.{cases_eq, cases_Bool}
use Rattle.lc_algebra.specs.Greatest.{greatest_up_to}

pub greatest_up_to-at_most : (test : ℕ → Bool) (most : ℕ) → greatest_up_to test most ≤ most
unfolding greatest_up_to
greatest_up_to-at_most test zero = omega arith
greatest_up_to-at_most test (suc most) =
    ⊎_elim
    (λ (yes : test (suc most) ≡ true). rw yes (omega arith))
    (λ (no : test (suc most) ≡ false). let h = greatest_up_to-at_most test most in rw no (omega arith))
    (cases_Bool (test (suc most)))

-- it passes, where 0 does
pub greatest_up_to-passes : (test : ℕ → Bool) (most : ℕ) → test 0 ≡ true → test (greatest_up_to test most) ≡ true
unfolding greatest_up_to
greatest_up_to-passes test zero start = start
greatest_up_to-passes test (suc most) start =
    ⊎_elim
    (λ (yes : test (suc most) ≡ true). simp yes)
    (λ (no : test (suc most) ≡ false). simp no (greatest_up_to-passes test most start))
    (cases_Bool (test (suc most)))

-- nothing up to `most` that passes is above it
pub greatest_up_to-greatest : (test : ℕ → Bool) (most j : ℕ) → j ≤ most → test j ≡ true → j ≤ greatest_up_to test most
unfolding greatest_up_to
greatest_up_to-greatest test zero j below passes = below
greatest_up_to-greatest test (suc most) j below passes =
    ⊎_elim
    (λ (yes : test (suc most) ≡ true). rw yes below)
    (λ (no : test (suc most) ≡ false).
    rw no
    (⊎_elim
    (λ (same : j ≡ suc most). let clash : test (suc most) ≡ true = subst (λ (n : ℕ). test n ≡ true) same passes in cc)
    (λ (other : j ≡ suc most → ⊥). greatest_up_to-greatest test most j (omega arith) passes)
    (cases_eq j (suc most))))
    (cases_Bool (test (suc most)))

-- the one number up to `most` that passes with nothing above it that does
pub greatest_up_to-only : (test : ℕ → Bool) (most k : ℕ) → k ≤ most → test 0 ≡ true → test k ≡ true → ((j : ℕ) → test j ≡ true → j ≤ k) → greatest_up_to test most ≡ k
greatest_up_to-only test most k below start passes highest =
    le_antisymm
    (highest (greatest_up_to test most) (greatest_up_to-passes test most start))
    (greatest_up_to-greatest test most k below passes)

-- a weaker test has no smaller one
pub greatest_up_to-weaker : (p q : ℕ → Bool) (most : ℕ) → p 0 ≡ true → ((k : ℕ) → p k ≡ true → q k ≡ true) → greatest_up_to p most ≤ greatest_up_to q most
greatest_up_to-weaker p q most start weaker =
    greatest_up_to-greatest q most (greatest_up_to p most) (greatest_up_to-at_most p most)
    (weaker (greatest_up_to p most) (greatest_up_to-passes p most start))
