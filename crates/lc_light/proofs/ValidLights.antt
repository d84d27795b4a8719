-- The lights of a text without a fault are within their ranges.
use Rattle.std.proofs.Common.{◌≡◌, ℕ, suc, ◌+◌, ◌/◌, ◌%◌, ◌^◌, ◌<◌, ◌≤◌, Bool, true, false, cond, List, [], ◌∷◌, ◌++◌, length, Option, Some, None, refl, sym, ap, subst, ◌∙◌, append_assoc, arith, length-append, nat_lt, le_trans}
use Rattle.std.specs.Prelude.{All, flat_map, sum_by}
use Rattle.std.specs.List.{cons_option, range_with_len}
use Rattle.std.proofs.lemmas.List.{append-nil}
use Rattle.std.proofs.lemmas.List.Elements.{All-push, All-nil, All-append, All-cons, All-map, filter_map-append}
use Rattle.std.proofs.lemmas.List.Sums.{sum_by_push, sum_by-cons}
use Rattle.std.proofs.lemmas.Bool.{ltb-true}
use Rattle.std.proofs.Math.Nat.{mul-le-mul_left}
use Rattle.std.proofs.lemmas.List.FromFn.{length-map-range_with_len}
use Rattle.lc_num.proofs.ScaledLemmas.{scaled_within}
use Rattle.lc_num.specs.Vectors.{cross}
use Rattle.lc_words.specs.Words.{stream_of, stream_word}
use Rattle.lc_words.proofs.WordLaws.{word_small}
use Rattle.lc_scan.specs.Lines.{Line}
use Rattle.lc_scan.specs.Fields.{fields}
use Rattle.lc_scan.specs.Spoken.{spoken}
use Rattle.lc_scan.specs.Faults.{first_fault}
use Rattle.lc_scan.proofs.LineTestLemmas.{no_kind}
use Rattle.lc_scan.proofs.ReaderLemmas.{fault_then-none}
use Rattle.lc_light.specs.FaultKinds.{kind_number}
use Rattle.lc_light.specs.Areas.{IsArea, normal, sample, samples_from, share}
use Rattle.lc_light.specs.Lights.{IsOmni, IsOriented, IsSun, AreLights}
use Rattle.lc_light.specs.LightLine.{kind_of, source_of}
use Rattle.lc_light.specs.LightFile.{sources, fault_of, fault_in, lights}
use Rattle.lc_light.specs.Sources.{IsSource, count, points, samples, suns, lights_of}
use Rattle.lc_light.specs.declared.area.Area.{Area}
use Rattle.lc_light.specs.declared.source.Source.{Source}
use Rattle.lc_light.specs.declared.source.Source.TheVariants as source
use Rattle.lc_light.proofs.AreaLemmas.{place_by_within}
use Rattle.lc_light.proofs.LineRanges.{fine}
use Rattle.lc_light.proofs.ReadLemmas.{one_source_more}

-- ---- the sources

-- sources within their ranges, and not too many
record AreSources (ss : List Source) : Type 0 where
  valid : All IsSource ss
  few : sum_by count ss ≤ 65536

with_line : (before : List Line) (l : Line) (o : Option Source) → source_of (fields l.bytes) ≡ o → AreSources (sources before) → kind_of (sum_by count (sources before)) (fields l.bytes) ≡ None → AreSources (sources (before ++ l ∷ []))
with_line before l None e h none =
    let same : sources (before ++ l ∷ []) ≡ sources before = filter_map-append (λ (m : Line). source_of (fields m.bytes)) before (l ∷ []) ∙ ap (λ (o : Option Source). sources before ++ cons_option o []) e ∙ append-nil (sources before) in
    subst AreSources (sym same) h
with_line before l (Some found) e h none =
    let own = fine (sum_by count (sources before)) (fields l.bytes) found none e in
    subst AreSources (sym (one_source_more before l found e)) (record { valid = All-push IsSource (sources before) found h.valid own.range; few = omega (arith, own.room, sum_by_push count (sources before) found) })

all_fine : (before later : List Line) → first_fault fault_of before later ≡ None → AreSources (sources before) → AreSources (sources (before ++ later))
unfolding first_fault
all_fine before [] h valid = subst (λ (ls : List Line). AreSources (sources ls)) (sym (append-nil before)) valid
all_fine before (l ∷ later) h valid =
    let both = fault_then-none (fault_of before l) l.number (first_fault fault_of (before ++ l ∷ []) later) h in
    let none = no_kind kind_number (kind_of (sum_by count (sources before)) (fields l.bytes)) both.0 in
    subst (λ (ls : List Line). AreSources (sources ls)) (append_assoc before (l ∷ []) later) (all_fine (before ++ l ∷ []) later both.1 (with_line before l (source_of (fields l.bytes)) refl valid none))

-- the sources of a text without a fault
are_sources : (text : List ℕ) → fault_in text ≡ None → AreSources (sources (spoken text))
unfolding fault_in
are_sources text h = all_fine [] (spoken text) h (record { valid = All-nil IsSource; few = omega arith })

pub sources_valid : (text : List ℕ) → fault_in text ≡ None → All IsSource (sources (spoken text))
sources_valid text h = (are_sources text h).valid

-- ---- the samples

share_most : (i n k : ℕ) → 1 ≤ n → share i n k ≤ i
share_most i n k some = by_test (nat_lt k (i % n)) refl
  where
    by_test : (b : Bool) → nat_lt k (i % n) ≡ b → i / n + cond b 1 0 ≤ i
    by_test true e = omega (arith, ltb-true k (i % n) e, mul-le-mul_left (i / n) some)
    by_test false e = omega (arith, mul-le-mul_left (i / n) some)

share_within : (p n k m : ℕ) → 1 ≤ n → p ≤ m → share p n k ≤ m
share_within p n k m some h = le_trans (share_most p n k some) h

sample_valid : (word : ℕ) (s : Area × ℕ) → word < 2 ^ 32 → IsArea s.0 → IsOriented (sample word s)
unfolding sample normal
sample_valid word s small h = record {
  place = place_by_within word s.0 small h;
  normal = scaled_within (cross s.0.along s.0.across) 16384;
  power = record {
    r = share_within s.0.power.r s.0.count s.1 100_000_000 h.some h.power.r;
    g = share_within s.0.power.g s.0.count s.1 100_000_000 h.some h.power.g;
    b = share_within s.0.power.b s.0.count s.1 100_000_000 h.some h.power.b;
  };
}

rest_of : {X : Type 0} (P : X → Type 0) (x : X) (xs : List X) → All P (x ∷ xs) → All P xs
rest_of P x xs h = λ k d lt. h (suc k) d (omega arith)

samples_valid : (word : ℕ → ℕ) (n : ℕ) (list : List (Area × ℕ)) → ((k : ℕ) → word k < 2 ^ 32) → All (λ (s : Area × ℕ). IsArea s.0) list → All IsOriented (samples_from word n list)
unfolding samples_from
samples_valid word n [] small h = All-nil IsOriented
samples_valid word n (s ∷ list) small h =
    All-cons IsOriented (sample (word n) s) (samples_from word (n + 1) list) (sample_valid (word n) s (small n) (h 0 s (omega arith))) (samples_valid word (n + 1) list small (rest_of (λ (t : Area × ℕ). IsArea t.0) s list h))

length-samples_from : (word : ℕ → ℕ) (n : ℕ) (list : List (Area × ℕ)) → length (samples_from word n list) ≡ length list
unfolding samples_from
length-samples_from word n [] = refl
length-samples_from word n (s ∷ list) = omega (arith, length-samples_from word (n + 1) list)

-- ---- the lights

points_valid : (s : Source) → IsSource s → All IsOmni (points s)
points_valid (source.Point omni) h = All-cons IsOmni omni [] h (All-nil IsOmni)
points_valid (source.Sun sun) h = All-nil IsOmni
points_valid (source.Area area) h = All-nil IsOmni

suns_valid : (s : Source) → IsSource s → All IsSun (suns s)
suns_valid (source.Point omni) h = All-nil IsSun
suns_valid (source.Sun sun) h = All-cons IsSun sun [] h (All-nil IsSun)
suns_valid (source.Area area) h = All-nil IsSun

areas_valid : (s : Source) → IsSource s → All (λ (t : Area × ℕ). IsArea t.0) (samples s)
areas_valid (source.Point omni) h = All-nil (λ (t : Area × ℕ). IsArea t.0)
areas_valid (source.Sun sun) h = All-nil (λ (t : Area × ℕ). IsArea t.0)
areas_valid (source.Area area) h = All-map (λ (t : Area × ℕ). IsArea t.0) (λ (k : ℕ). (area, k)) (range_with_len 0 area.count) (λ k d lt. h)

all_valid : {X : Type 0} (P : X → Type 0) (f : Source → List X) (ss : List Source) → ((s : Source) → IsSource s → All P (f s)) → All IsSource ss → All P (flat_map f ss)
all_valid P f [] own h = All-nil P
all_valid P f (s ∷ ss) own h = All-append P (f s) (flat_map f ss) (own s (h 0 s (omega arith))) (all_valid P f ss own (rest_of IsSource s ss h))

counted : (s : Source) → length (points s) + length (samples s) + length (suns s) ≡ count s
counted (source.Point omni) = refl
counted (source.Sun sun) = refl
counted (source.Area area) = omega (arith, length-map-range_with_len {X = Area × ℕ} (λ k. (area, k)) 0 area.count)

all_counted : (ss : List Source) → length (flat_map points ss) + length (flat_map samples ss) + length (flat_map suns ss) ≡ sum_by count ss
all_counted [] = refl
all_counted (s ∷ ss) =
    let p : length (flat_map points (s ∷ ss)) ≡ length (points s) + length (flat_map points ss) = length-append (points s) (flat_map points ss) in
    let a : length (flat_map samples (s ∷ ss)) ≡ length (samples s) + length (flat_map samples ss) = length-append (samples s) (flat_map samples ss) in
    let n : length (flat_map suns (s ∷ ss)) ≡ length (suns s) + length (flat_map suns ss) = length-append (suns s) (flat_map suns ss) in
    let all : sum_by count (s ∷ ss) ≡ count s + sum_by count ss = sum_by-cons count s ss in
    omega (arith, counted s, all_counted ss)

lights_of_valid : (word : ℕ → ℕ) (ss : List Source) → ((k : ℕ) → word k < 2 ^ 32) → AreSources ss → AreLights (lights_of word ss)
unfolding lights_of
lights_of_valid word ss small h = record {
  omni = all_valid IsOmni points ss points_valid h.valid;
  oriented = samples_valid word 0 (flat_map samples ss) small (all_valid (λ (t : Area × ℕ). IsArea t.0) samples ss areas_valid h.valid);
  sun = all_valid IsSun suns ss suns_valid h.valid;
  count = omega (arith, h.few, all_counted ss, length-samples_from word 0 (flat_map samples ss));
}

-- the lights of a text without a fault are within their ranges, and not too many
pub lights_valid : (text : List ℕ) (seed : ℕ) → fault_in text ≡ None → AreLights (lights text seed)
unfolding lights
lights_valid text seed h = lights_of_valid (stream_word seed 3) (sources (spoken text)) (word_small (stream_of seed 3)) (are_sources text h)
