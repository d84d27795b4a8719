-- Words that are drawn one after the other.
use Rattle.std.proofs.Common.{◌≡◌, ℕ, zero, suc, ◌+◌, ◌*◌, ◌-◌, ◌/◌, ◌%◌, ◌^◌, ◌<◌, bit_xor, ap, sym, ◌∙◌, arith, mod-lt, pow_pos}
use Rattle.std.proofs.lemmas.Nat.{or_lt, shr_le}
use Rattle.std.specs.Int.{w32, rotate_right}
use Rattle.rand_pcg.specs.Lcg.{Lcg}
use Rattle.rand_pcg.specs.Pcg.{pcg32}
use Rattle.lc_words.specs.Words.{after, word_of}

pub after_add : (g : Lcg) (a b : ℕ) → after (after g a) b ≡ after g (a + b)
after_add g zero b = let e : 0 + b ≡ b = omega arith in ap (after g) (sym e)
after_add g (suc a) b = let e : suc a + b ≡ suc (a + b) = omega arith in after_add (pcg32 g).1 a b ∙ ap (after g) (sym e)

-- the next word of a generator that has given n words
pub word_at : (g old : Lcg) (n word : ℕ) → old ≡ after g n → word ≡ word_of old 0 → word ≡ word_of g n
word_at g old n word e w = w ∙ ap (λ (h : Lcg). (pcg32 h).0) e

-- a generator that has given n words, some words later
pub later : (g old new : Lcg) (n k m : ℕ) → old ≡ after g n → new ≡ after old k → m ≡ n + k → new ≡ after g m
later g old new n k m eo en em = en ∙ ap (λ h. after h k) eo ∙ after_add g n k ∙ ap (after g) (sym em)

rotated_small : (n by : ℕ) → n < 2 ^ 32 → rotate_right w32 n by < 2 ^ 32
rotated_small n by fits =
    or_lt 32 (n / 2 ^ (by % 32)) (n * 2 ^ ((32 - by % 32) % 32) % 2 ^ 32) (omega (arith, shr_le n (by % 32), fits)) (mod-lt _ (pow_pos 32))

-- a word has 32 bits
pub word_small : (g : Lcg) (n : ℕ) → word_of g n < 2 ^ 32
word_small g n = let h : Lcg = after g n in rotated_small (bit_xor (h.state / 2 ^ 18) h.state / 2 ^ 27 % 2 ^ 32) (h.state / 2 ^ 59) (mod-lt _ (pow_pos 32))
