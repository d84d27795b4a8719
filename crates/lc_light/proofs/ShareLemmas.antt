-- The shares of an intensity add up to it.
use Rattle.std.proofs.Common.{◌≡◌, ℕ, zero, suc, ◌+◌, ◌*◌, ◌/◌, ◌%◌, ◌≤◌, min, Bool, true, false, cond, List, [], ◌∷◌, map, refl, sym, ap, ◌∙◌, arith, mod-lt, add-zero, nat_lt}
use Rattle.std.specs.Prelude.{All, None, flat_map, sum_by}
use Rattle.std.specs.List.{range_with_len}
use Rattle.std.proofs.lemmas.Bool.{ltb-true, ltb-false}
use Rattle.std.proofs.lemmas.List.Sums.{sum_by-cons, sum_by-append}
use Rattle.lc_light.specs.Areas.{numbered, sample, samples_from, share}
use Rattle.lc_words.specs.Words.{stream_word}
use Rattle.lc_light.specs.Sources.{IsSource, areas, samples, lights_of}
use Rattle.lc_light.specs.LightFile.{area_lights, fault_in, lights, sources}
use Rattle.lc_scan.specs.Spoken.{spoken}
use Rattle.lc_light.specs.declared.source.Source.{Source}
use Rattle.lc_light.specs.declared.source.Source.TheVariants as source
use Rattle.lc_light.specs.declared.area.Area.{Area}
use Rattle.lc_light.specs.declared.lights.Oriented.{Oriented}
use Rattle.lc_light.proofs.ValidLights.{sources_valid}

-- one share, by how many of the first get a unit more
one_share : (i n k : ℕ) → share i n k + min k (i % n) ≡ i / n + min (k + 1) (i % n)
one_share i n k = by_test (nat_lt k (i % n)) refl
  where
    by_test : (b : Bool) → nat_lt k (i % n) ≡ b → i / n + cond b 1 0 + min k (i % n) ≡ i / n + min (k + 1) (i % n)
    by_test true e = omega (arith, ltb-true k (i % n) e)
    by_test false e = omega (arith, ltb-false k (i % n) e)

shares_from : (i n k m : ℕ) → sum_by (λ j. share i n j) (range_with_len k m) + min k (i % n) ≡ m * (i / n) + min (k + m) (i % n)
shares_from i n k zero = omega arith
shares_from i n k (suc m) =
    let first : sum_by (λ j. share i n j) (range_with_len k (suc m)) ≡ share i n k + sum_by (λ j. share i n j) (range_with_len (k + 1) m) = sum_by-cons (λ j. share i n j) k (range_with_len (k + 1) m) in
    omega (arith, one_share i n k, shares_from i n (k + 1) m)

pub shares_add_up : (i n : ℕ) → 1 ≤ n → sum_by (λ k. share i n k) (range_with_len 0 n) ≡ i
shares_add_up i n some = omega (arith, shares_from i n 0 n, mod-lt i {m = n} some)

-- one channel of the samples' intensities, which does not turn on their words
module _ (channel : Oriented → ℕ) (own : Area → ℕ) (reads : (w : ℕ) (s : Area × ℕ) → channel (sample w s) ≡ share (own s.0) s.0.count s.1) where
  abbrev shared : Area × ℕ → ℕ
  shared s = share (own s.0) s.0.count s.1

  by_samples : (word : ℕ → ℕ) (n : ℕ) (list : List (Area × ℕ)) → sum_by channel (samples_from word n list) ≡ sum_by shared list
  unfolding samples_from
  by_samples word n [] = refl
  by_samples word n (s ∷ list) =
      sum_by-cons channel (sample (word n) s) (samples_from word (n + 1) list) ∙ ap (λ m. m + sum_by channel (samples_from word (n + 1) list)) (reads (word n) s)
      ∙ ap (λ m. shared s + m) (by_samples word (n + 1) list) ∙ sym (sum_by-cons shared s list)

  by_numbers : (area : Area) (ks : List ℕ) → sum_by shared (map (λ k. (area, k)) ks) ≡ sum_by (λ k. share (own area) area.count k) ks
  by_numbers area [] = refl
  by_numbers area (k ∷ ks) =
      sum_by-cons shared (area, k) (map (λ j. (area, j)) ks) ∙ ap (λ m. shared (area, k) + m) (by_numbers area ks) ∙ sym (sum_by-cons (λ j. share (own area) area.count j) k ks)

  by_area : (area : Area) → 1 ≤ area.count → sum_by shared (numbered area) ≡ own area
  by_area area some = by_numbers area (range_with_len 0 area.count) ∙ shares_add_up (own area) area.count some

  pub area_sum : (word : ℕ → ℕ) (n : ℕ) (area : Area) → 1 ≤ area.count → sum_by channel (samples_from word n (numbered area)) ≡ own area
  area_sum word n area some = by_samples word n (numbered area) ∙ by_area area some

  by_source : (s : Source) → IsSource s → sum_by shared (samples s) ≡ sum_by own (areas s)
  by_source (source.Point omni) h = refl
  by_source (source.Sun sun) h = refl
  by_source (source.Area area) h = by_area area h.some ∙ sym (sum_by-cons own area [] ∙ add-zero (own area))

  by_sources : (ss : List Source) → All IsSource ss → sum_by shared (flat_map samples ss) ≡ sum_by own (flat_map areas ss)
  by_sources [] h = refl
  by_sources (s ∷ ss) h =
      let first : sum_by shared (flat_map samples (s ∷ ss)) ≡ sum_by shared (samples s) + sum_by shared (flat_map samples ss) = sum_by-append shared (samples s) (flat_map samples ss) in
      let second : sum_by own (flat_map areas (s ∷ ss)) ≡ sum_by own (areas s) + sum_by own (flat_map areas ss) = sum_by-append own (areas s) (flat_map areas ss) in
      omega (arith, by_source s (h 0 s (omega arith)), by_sources ss (λ k d lt. h (suc k) d (omega arith)))

  file_sum : (word : ℕ → ℕ) (ss : List Source) → All IsSource ss → sum_by channel (lights_of word ss).oriented ≡ sum_by own (flat_map areas ss)
  unfolding lights_of
  file_sum word ss h = by_samples word 0 (flat_map samples ss) ∙ by_sources ss h

  pub text_sum : (text : List ℕ) (seed : ℕ) → fault_in text ≡ None → sum_by channel (lights text seed).oriented ≡ sum_by own (area_lights text)
  unfolding lights
  text_sum text seed h = file_sum (stream_word seed 3) (sources (spoken text)) (sources_valid text h)

pub red_of : (w : ℕ) (s : Area × ℕ) → (sample w s).power.r ≡ share s.0.power.r s.0.count s.1
unfolding sample
red_of w s = refl

pub green_of : (w : ℕ) (s : Area × ℕ) → (sample w s).power.g ≡ share s.0.power.g s.0.count s.1
unfolding sample
green_of w s = refl

pub blue_of : (w : ℕ) (s : Area × ℕ) → (sample w s).power.b ≡ share s.0.power.b s.0.count s.1
unfolding sample
blue_of w s = refl
