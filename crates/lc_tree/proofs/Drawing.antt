-- The words that the nodes of a tree take.
use Rattle.std.proofs.Common.{◌≡◌, ℕ, ◌+◌, ◌-◌, ◌*◌, ◌<◌, ap, ◌∙◌, sym, arith}
use Rattle.lc_words.specs.Lcg.{Lcg}
use Rattle.lc_words.specs.Words.{after}
use Rattle.lc_words.proofs.WordLaws.{after_add}

-- a stream that has given no word is at its beginning
pub drew_none : (g w : Lcg) (n : ℕ) → w ≡ g → n ≡ 0 → w ≡ after g n
drew_none g w n is none = is ∙ ap (after g) (sym none)

-- one word, and those of two children
pub after_both : (a b c d : Lcg) (left right len : ℕ) → 0 < left → 0 < right → left + right ≡ len → b ≡ after a 1 → c ≡ after b (2 * left - 1) → d ≡ after c (2 * right - 1) → d ≡ after a (2 * len - 1)
after_both a b c d left right len some_left some_right all eb ec ed =
    let second : c ≡ after a (1 + (2 * left - 1)) = ec ∙ ap (λ h. after h (2 * left - 1)) eb ∙ after_add a 1 (2 * left - 1) in
    let count : (1 + (2 * left - 1)) + (2 * right - 1) ≡ 2 * len - 1 = omega arith in
    ed ∙ ap (λ h. after h (2 * right - 1)) second ∙ after_add a (1 + (2 * left - 1)) (2 * right - 1) ∙ ap (after a) count
