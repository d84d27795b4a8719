-- The greatest number that passes a test, by other tests.
use Rattle.std.proofs.Common.{◌≡◌, ◌≢◌, ℕ, zero, suc, ◌+◌, ◌<◌, ◌≤◌, ◌||◌, max, Bool, true, false, refl, sym, ◌∙◌, ap, arith, ⊎_elim, List, length, take, get_or}
use Rattle.std.proofs.lemmas.Bool.{cases_Bool, cases_eq}
use Rattle.std.proofs.lemmas.List.Folds.{list_any_more}
use Rattle.std.specs.List.{list_any}
use Rattle.lc_algebra.specs.Greatest.{greatest_up_to}
use Rattle.lc_algebra.proofs.Greatest.{greatest_up_to-at_most}
use Rattle.lc_rated.specs.declared.answer.Answer.{Answer}
use Rattle.lc_map.specs.Scale.{reaches, sample_reaches}

-- where nothing passes
pub greatest-none : (test : ℕ → Bool) (most : ℕ) → ((j : ℕ) → 0 < j → j ≤ most → test j ≡ false) → greatest_up_to test most ≡ 0
unfolding greatest_up_to
greatest-none test zero none = refl
greatest-none test (suc most) none =
    let no : test (suc most) ≡ false = none (suc most) (omega arith) (omega arith) in
    rw no (greatest-none test most (λ j some below. none j some (omega arith)))

-- the number that passes with nothing above it that does
pub greatest-is : (test : ℕ → Bool) (most k : ℕ) → k ≤ most → test k ≡ true → ((j : ℕ) → k < j → j ≤ most → test j ≡ false) → greatest_up_to test most ≡ k
unfolding greatest_up_to
greatest-is test zero k below passes above = omega arith
greatest-is test (suc most) k below passes above =
    ⊎_elim
    (λ (same : k ≡ suc most). let yes : test (suc most) ≡ true = rw (← same) passes in rw (yes, same) refl)
    (λ (other : k ≡ suc most → ⊥).
    let no : test (suc most) ≡ false = above (suc most) (omega arith) (omega arith) in
    rw no (greatest-is test most k (omega arith) passes (λ j more j_below. above j more (omega arith))))
    (cases_eq k (suc most))

-- two tests that are the same as far as it matters
pub greatest-same : (p q : ℕ → Bool) (most : ℕ) → ((j : ℕ) → j ≤ most → p j ≡ q j) → greatest_up_to p most ≡ greatest_up_to q most
unfolding greatest_up_to
greatest-same p q zero same = refl
greatest-same p q (suc most) same =
    let here : p (suc most) ≡ q (suc most) = same (suc most) (omega arith) in
    let before : greatest_up_to p most ≡ greatest_up_to q most = greatest-same p q most (λ j below. same j (omega arith)) in
    rw (here, before) refl

-- one of two tests
pub greatest-either : (p q : ℕ → Bool) (most : ℕ) → greatest_up_to (λ j. p j || q j) most ≡ max (greatest_up_to p most) (greatest_up_to q most)
unfolding greatest_up_to
greatest-either p q zero = refl
greatest-either p q (suc most) =
    let p_most : greatest_up_to p most ≤ most = greatest_up_to-at_most p most in
    let q_most : greatest_up_to q most ≤ most = greatest_up_to-at_most q most in
    let before : greatest_up_to (λ j. p j || q j) most ≡ max (greatest_up_to p most) (greatest_up_to q most) = greatest-either p q most in
    ⊎_elim
    (λ (first : p (suc most) ≡ true). ⊎_elim
    (λ (second : q (suc most) ≡ true). rw (first, second) (omega arith))
    (λ (second : q (suc most) ≡ false). rw (first, second) (omega arith)) (cases_Bool (q (suc most))))
    (λ (first : p (suc most) ≡ false). ⊎_elim
    (λ (second : q (suc most) ≡ true). rw (first, second) (omega arith))
    (λ (second : q (suc most) ≡ false). rw (first, second) before) (cases_Bool (q (suc most))))
    (cases_Bool (p (suc most)))

-- ---- bytes that bounds reach

-- the byte of a sample, by those of its channels
pub sample-is : (a : Answer) (red green blue byte : ℕ) → red ≡ greatest_up_to (reaches a.est.r a.bound.r) 255 → green ≡ greatest_up_to (reaches a.est.g a.bound.g) 255 → blue ≡ greatest_up_to (reaches a.est.b a.bound.b) 255 → byte ≡ max red (max green blue) → byte ≡ greatest_up_to (λ b. sample_reaches b a) 255
sample-is a red green blue byte r g b is =
    let later = greatest-either (reaches a.est.g a.bound.g) (reaches a.est.b a.bound.b) 255 in
    let all = greatest-either (reaches a.est.r a.bound.r) (λ n. reaches a.est.g a.bound.g n || reaches a.est.b a.bound.b n) 255 in
    is ∙ ap (λ n. max n (max green blue)) r ∙ ap (λ n. max (greatest_up_to (reaches a.est.r a.bound.r) 255) n)
    (ap (λ n. max n blue) g ∙ ap (λ n. max (greatest_up_to (reaches a.est.g a.bound.g) 255) n) b ∙ sym later) ∙ sym all

-- one sample more
pub bytes-more : (samples : List Answer) (i : ℕ) (d : Answer) (before byte now : ℕ) → i < length samples → before ≡ greatest_up_to (λ b. list_any (sample_reaches b) (take i samples)) 255 → byte ≡ greatest_up_to (λ b. sample_reaches b (get_or samples i d)) 255 → now ≡ max before byte → now ≡ greatest_up_to (λ b. list_any (sample_reaches b) (take (i + 1) samples)) 255
bytes-more samples i d before byte now inside so_far one is =
    let both = greatest-either (λ b. list_any (sample_reaches b) (take i samples)) (λ b. sample_reaches b (get_or samples i d)) 255 in
    let same = greatest-same (λ b. list_any (sample_reaches b) (take (i + 1) samples)) (λ b. list_any (sample_reaches b) (take i samples) || sample_reaches b (get_or samples i d)) 255 (λ b most. list_any_more (sample_reaches b) samples i d inside) in
    is ∙ ap (λ n. max n byte) so_far ∙ ap (λ n. max (greatest_up_to (λ b. list_any (sample_reaches b) (take i samples)) 255) n) one ∙ sym both ∙ sym same

-- no sample at all
pub bytes-none : (samples : List Answer) → 0 ≡ greatest_up_to (λ b. list_any (sample_reaches b) (take 0 samples)) 255
bytes-none samples = sym (greatest-none (λ b. list_any (sample_reaches b) (take 0 samples)) 255 (λ j some most. refl))

-- it passes, where it is not 0
pub greatest-passes : (test : ℕ → Bool) (most : ℕ) → greatest_up_to test most ≢ 0 → test (greatest_up_to test most) ≡ true
unfolding greatest_up_to
greatest-passes test zero some = absurd (some refl)
greatest-passes test (suc most) some =
    ⊎_elim
    (λ (yes : test (suc most) ≡ true). simp yes)
    (λ (no : test (suc most) ≡ false). simp no (greatest-passes test most (simp no at some)))
    (cases_Bool (test (suc most)))
