-- The words of a stream.
use Rattle.std.specs.Prelude.{ℕ, zero, suc}
use Rattle.rand_pcg.specs.Lcg.{Lcg, started, increment_of}
use Rattle.rand_pcg.specs.Pcg.{multiplier_64, pcg32}

-- the generator after n words
abbrev pub after : Lcg → ℕ → Lcg
after g zero = g
after g (suc n) = after (pcg32 g).1 n

-- word n of a generator, the first having number 0
abbrev pub word_of : Lcg → ℕ → ℕ
word_of g n = (pcg32 (after g n)).0

-- the generator of a seed and a stream, before its first word
abbrev pub stream_of : ℕ → ℕ → Lcg
stream_of seed stream = started 64 multiplier_64 seed (increment_of 64 stream)

-- word n of a stream
abbrev pub stream_word : ℕ → ℕ → ℕ → ℕ
stream_word seed stream n = word_of (stream_of seed stream) n
