-- Samples one after the other, by the words of a stream.
use Rattle.std.proofs.Common.{◌≡◌, ℕ, ◌+◌, List, [], ◌∷◌, ◌++◌, length, map, refl, sym, ap, ◌∙◌, arith, append_assoc}
use Rattle.std.specs.List.{range_with_len}
use Rattle.std.proofs.lemmas.List.FromFn.{map-range_with_len_more, length-map-range_with_len}
use Rattle.std.proofs.lemmas.List.{append-nil}
use Rattle.lc_num.specs.declared.vectors.Vec3.{Vec3}
use Rattle.lc_num.specs.declared.channels.Power.{Power}
use Rattle.lc_words.specs.Lcg.{Lcg}
use Rattle.lc_words.specs.Words.{after, word_of}
use Rattle.lc_words.proofs.WordLaws.{after_add, word_at}
use Rattle.lc_light.specs.Areas.{normal, place_by, power_share, sample, samples_from}
use Rattle.lc_light.specs.Sources.{samples}
use Rattle.lc_light.specs.declared.source.Source.{Source}
use Rattle.lc_light.specs.declared.source.Source.TheVariants as source
use Rattle.lc_light.specs.declared.area.Area.{Area}
use Rattle.lc_light.specs.declared.lights.Oriented.{Oriented}

-- samples after others
pub samples_after : (word : ℕ → ℕ) (n m : ℕ) (xs ys : List (Area × ℕ)) → n + length xs ≡ m → samples_from word n (xs ++ ys) ≡ samples_from word n xs ++ samples_from word m ys
unfolding samples_from
samples_after word n m [] ys e = let f : n ≡ m = omega (arith, e) in ap (λ (k : ℕ). samples_from word k ys) f
samples_after word n m (x ∷ xs) ys e = ap (λ (ls : List Oriented). sample (word n) x ∷ ls) (samples_after word (n + 1) m xs ys (omega (arith, e)))

-- the words of a generator that has given n words
pub samples_later : (g : Lcg) (n k m : ℕ) (xs : List (Area × ℕ)) → n + k ≡ m → samples_from (word_of (after g n)) k xs ≡ samples_from (word_of g) m xs
unfolding samples_from
samples_later g n k m [] e = refl
samples_later g n k m (x ∷ xs) e =
    let first : word_of (after g n) k ≡ word_of g m = word_at g (after (after g n) k) m (word_of (after g n) k) (after_add g n k ∙ ap (after g) e) refl in
    ap (λ (w : ℕ). sample w x ∷ samples_from (word_of (after g n)) (k + 1) xs) first ∙ ap (λ (ls : List Oriented). sample (word_of g m) x ∷ ls) (samples_later g n (k + 1) (m + 1) xs (omega (arith, e)))

-- the first n samples of an area light
abbrev pub first_samples : Area → ℕ → List (Area × ℕ)
first_samples area n = map (λ k. (area, k)) (range_with_len 0 n)

one_sample_more : (word : ℕ → ℕ) (area : Area) (n : ℕ) → samples_from word 0 (first_samples area (n + 1)) ≡ samples_from word 0 (first_samples area n) ++ sample (word n) (area, n) ∷ []
unfolding samples_from
one_sample_more word area n =
    let at : 0 + n ≡ n = omega arith in
    let len : 0 + length (first_samples area n) ≡ n = omega (arith, length-map-range_with_len {X = Area × ℕ} (λ k. (area, k)) 0 n) in
    ap (λ (xs : List (Area × ℕ)). samples_from word 0 xs) (map-range_with_len_more (λ k. (area, k)) 0 n n at) ∙ samples_after word 0 n (first_samples area n) ((area, n) ∷ []) len

pub no_samples : (word : ℕ → ℕ) (lights : List Oriented) (none : List (Area × ℕ)) → none ≡ [] → lights ≡ lights ++ samples_from word 0 none
unfolding samples_from
no_samples word lights none e = sym (append-nil lights) ∙ ap (λ (xs : List (Area × ℕ)). lights ++ samples_from word 0 xs) (sym e)

pub count_of_samples : (area : Area) (s : Source) → s ≡ source.Area area → area.count ≡ length (samples s)
count_of_samples area s e = sym (ap (λ (t : Source). length (samples t)) e ∙ length-map-range_with_len {X = Area × ℕ} (λ k. (area, k)) 0 area.count)

-- a sample as the code makes it
pub record Made (word : ℕ → ℕ) (area : Area) (n : ℕ) (light : Oriented) : Type 0 where
  pub place : light.place ≡ place_by (word n) area
  pub normal_is : light.normal ≡ normal area
  pub power : light.power ≡ power_share area.power area.count n

same_light : (place place' normal normal' : Vec3) (power power' : Power) → place ≡ place' → normal ≡ normal' → power ≡ power'
    → ◌≡◌ {A = Oriented} (record { place = place; normal = normal; power = power }) (record { place = place'; normal = normal'; power = power' })
same_light place place' normal normal' power power' e f g = cc

made_is : (word : ℕ → ℕ) (area : Area) (n : ℕ) (light : Oriented) → Made word area n light → light ≡ sample (word n) (area, n)
unfolding sample
made_is word area n light h = same_light light.place _ light.normal _ light.power _ h.place h.normal_is h.power

pub grows : (word : ℕ → ℕ) (area : Area) (n : ℕ) (light : Oriented) (initial old new : List Oriented) → Made word area n light → old ≡ initial ++ samples_from word 0 (first_samples area n) → new ≡ old ++ light ∷ []
    → new ≡ initial ++ samples_from word 0 (first_samples area (n + 1))
grows word area n light initial old new h e f =
    f ∙ ap (λ (ls : List Oriented). ls ++ light ∷ []) e ∙ append_assoc initial (samples_from word 0 (first_samples area n)) (light ∷ [])
    ∙ ap (λ (l : Oriented). initial ++ (samples_from word 0 (first_samples area n) ++ l ∷ [])) (made_is word area n light h)
    ∙ ap (λ (ls : List Oriented). initial ++ ls) (sym (one_sample_more word area n))
