-- The lines seen so far, and what they say of the text.
use Rattle.std.proofs.Common.{◌≡◌, ℕ, ◌+◌, ◌≤◌, List, [], ◌∷◌, ◌++◌, length, Option, Some, None, option_map, refl, sym, ap, ◌∙◌, arith, add-zero, length-append, subst}
use Rattle.std.specs.Prelude.{flat_map, sum_by}
use Rattle.std.specs.List.{cons_option}
use Rattle.std.proofs.lemmas.List.{flat_map_more}
use Rattle.std.proofs.lemmas.List.Elements.{filter_map-append}
use Rattle.std.proofs.lemmas.List.Sums.{sum_by_push}
use Rattle.lc_words.specs.Lcg.{Lcg}
use Rattle.lc_words.specs.Words.{after, word_of, stream_of, stream_word}
use Rattle.lc_words.proofs.WordLaws.{later}
use Rattle.lc_light.specs.Areas.{samples_from}
use Rattle.lc_scan.specs.Lines.{Line, lines}
use Rattle.lc_scan.specs.Fields.{fields}
use Rattle.lc_scan.specs.Spoken.{spoken_in}
use Rattle.lc_scan.proofs.ReaderLemmas as reader
use Rattle.lc_light.specs.FaultKinds.{kind_number}
use Rattle.lc_light.specs.LightLine.{kind_of, source_of}
use Rattle.lc_light.specs.Sources.{count, points, samples, suns, lights_of}
use Rattle.lc_light.specs.LightFile.{sources, fault_of, fault_in, lights}
use Rattle.lc_light.specs.declared.area.Area.{Area}
use Rattle.lc_light.specs.declared.lights.Omni.{Omni}
use Rattle.lc_light.specs.declared.lights.Oriented.{Oriented}
use Rattle.lc_light.specs.declared.lights.Sun.{Sun}
use Rattle.lc_light.specs.declared.lights.Lights.{Lights}
use Rattle.lc_light.specs.declared.fault_kind.FaultKind.{FaultKind}
use Rattle.lc_light.specs.declared.source.Source.{Source}
use Rattle.lc_light.proofs.SampleLemmas.{samples_after, samples_later, no_samples}

-- the lights of sources that have been read, and the words that their samples have taken
pub record Gathered (g : Lcg) (found : List Source) (held : Lights) (words : Lcg) : Type 0 where
  pub omni : held.omni ≡ flat_map points found
  pub oriented : held.oriented ≡ samples_from (word_of g) 0 (flat_map samples found)
  pub sun : held.sun ≡ flat_map suns found
  pub taken : words ≡ after g (length (flat_map samples found))

-- the lines seen, and what they and the rest say of the text
pub record Progress (text : List ℕ) (seed : ℕ) (rest : List Line) (held : Lights) (words : Lcg) (so_far : ℕ) : Type 0 where
  pub seen : List Line
  pub gathered : Gathered (stream_of seed 3) (sources seen) held words
  pub so_far_is : so_far ≡ sum_by count (sources seen)
  pub lines : reader.Progress fault_of text seen (spoken_in rest)
  pub few : so_far ≤ 65536

nothing : (g words : Lcg) (omni : List Omni) (oriented : List Oriented) (sun : List Sun) → omni ≡ [] → oriented ≡ [] → sun ≡ [] → words ≡ g → Gathered g [] (record { omni = omni; oriented = oriented; sun = sun }) words
nothing g words omni oriented sun e f h w = record { omni = e; oriented = f ∙ no_samples (word_of g) [] [] refl; sun = h; taken = w }

pub start : (text : List ℕ) (seed : ℕ) (rest : List Line) (omni : List Omni) (oriented : List Oriented) (sun : List Sun) (words : Lcg) → rest ≡ lines text → omni ≡ [] → oriented ≡ [] → sun ≡ [] → words ≡ stream_of seed 3
    → Progress text seed rest (record { omni = omni; oriented = oriented; sun = sun }) words 0
start text seed rest omni oriented sun words e f g h w = record {
  seen = [];
  gathered = nothing (stream_of seed 3) words omni oriented sun f g h w;
  so_far_is = refl;
  lines = subst (λ (ls : List Line). reader.Progress fault_of text [] (spoken_in ls)) (sym e) (reader.start fault_of text);
  few = omega arith;
}

-- the line's own fault, after the lights so far
own_fault : (l : Line) (seen : List Line) (so_far : ℕ) (o : Option FaultKind) → so_far ≡ sum_by count (sources seen) → kind_of so_far (fields l.bytes) ≡ o → fault_of seen l ≡ option_map kind_number o
own_fault l seen so_far o e k = ap (option_map kind_number) (ap (λ (n : ℕ). kind_of n (fields l.bytes)) (sym e) ∙ k)

pub one_source_more : (seen : List Line) (l : Line) (found : Source) → source_of (fields l.bytes) ≡ Some found → sources (seen ++ l ∷ []) ≡ sources seen ++ found ∷ []
one_source_more seen l found e =
    filter_map-append (λ (m : Line). source_of (fields m.bytes)) seen (l ∷ []) ∙ ap (λ (o : Option Source). sources seen ++ cons_option o []) e

-- the lights that one more source gives
pub record Added (held : Lights) (words : Lcg) (found : Source) (more : Lights) (left : Lcg) : Type 0 where
  pub omni : more.omni ≡ held.omni ++ points found
  pub oriented : more.oriented ≡ held.oriented ++ samples_from (word_of words) 0 (samples found)
  pub sun : more.sun ≡ held.sun ++ suns found
  pub taken : left ≡ after words (length (samples found))

gathers : (g : Lcg) (ss : List Source) (held more : Lights) (words left : Lcg) (found : Source) → Gathered g ss held words → Added held words found more left → Gathered g (ss ++ found ∷ []) more left
gathers g ss held more words left found h a =
    let before = flat_map samples ss in
    let own = samples found in
    let joined : before ++ own ≡ flat_map samples (ss ++ found ∷ []) = flat_map_more samples [] ss found in
    let placed : samples_from (word_of words) 0 own ≡ samples_from (word_of g) (length before) own =
    ap (λ (w : Lcg). samples_from (word_of w) 0 own) h.taken ∙ samples_later g (length before) 0 (length before) own (add-zero (length before)) in
    record {
      omni = a.omni ∙ ap (λ (ls : List Omni). ls ++ points found) h.omni ∙ flat_map_more points [] ss found;
      oriented = a.oriented ∙ ap (λ (ls : List Oriented). ls ++ samples_from (word_of words) 0 own) h.oriented ∙ ap (λ (ls : List Oriented). samples_from (word_of g) 0 before ++ ls) placed
          ∙ sym (samples_after (word_of g) 0 (length before) before own (omega arith)) ∙ ap (λ (xs : List (Area × ℕ)). samples_from (word_of g) 0 xs) joined;
      sun = a.sun ∙ ap (λ (ls : List Sun). ls ++ suns found) h.sun ∙ flat_map_more suns [] ss found;
      taken = later g words left (length before) (length own) _ h.taken a.taken (sym (ap (λ (xs : List (Area × ℕ)). length xs) joined) ∙ length-append before own);
    }

-- what the judge of a line says where it names a source
pub record Judged (l : Line) (so_far : ℕ) (found : Source) : Type 0 where
  pub kind : kind_of so_far (fields l.bytes) ≡ None
  pub source : source_of (fields l.bytes) ≡ Some found
  pub room : so_far + count found ≤ 65536

pub takes : (text : List ℕ) (seed : ℕ) (l : Line) (rest later : List Line) (held more : Lights) (words left : Lcg) (so_far now : ℕ) (found : Source) → spoken_in rest ≡ l ∷ spoken_in later → Judged l so_far found → Added held words found more left → now ≡ so_far + count found
    → Progress text seed rest held words so_far → Progress text seed later more left now
takes text seed l rest later held more words left so_far now found e j a n p =
    let grown : sources (p.seen ++ l ∷ []) ≡ sources p.seen ++ found ∷ [] = one_source_more p.seen l found j.source in
    record {
      seen = p.seen ++ l ∷ [];
      gathered = subst (λ (ss : List Source). Gathered (stream_of seed 3) ss more left) (sym grown) (gathers (stream_of seed 3) (sources p.seen) held more words left found p.gathered a);
      so_far_is = n ∙ ap (λ (m : ℕ). m + count found) p.so_far_is ∙ sym (ap (λ (ss : List Source). sum_by count ss) grown ∙ sum_by_push count (sources p.seen) found);
      lines = reader.takes fault_of text p.seen (spoken_in rest) (spoken_in later) l e (own_fault l p.seen so_far None p.so_far_is j.kind) p.lines;
      few = omega (arith, n, j.room);
    }

pub stops : (text : List ℕ) (seed : ℕ) (l : Line) (rest later : List Line) (held : Lights) (words : Lcg) (so_far shown : ℕ) (kind : FaultKind) → spoken_in rest ≡ l ∷ spoken_in later → kind_of so_far (fields l.bytes) ≡ Some kind → shown ≡ kind_number kind
    → Progress text seed rest held words so_far → fault_in text ≡ Some (record { line = l.number; kind = shown })
unfolding fault_in
stops text seed l rest later held words so_far shown kind e k s p =
    reader.stops fault_of text p.seen (spoken_in rest) (spoken_in later) l (kind_number kind) e (own_fault l p.seen so_far (Some kind) p.so_far_is k) p.lines
    ∙ ap (λ (m : ℕ). Some (record { line = l.number; kind = m })) (sym s)

same_lights : (omni omni' : List Omni) (oriented oriented' : List Oriented) (sun sun' : List Sun) → omni ≡ omni' → oriented ≡ oriented' → sun ≡ sun'
    → ◌≡◌ {A = Lights} (record { omni = omni; oriented = oriented; sun = sun }) (record { omni = omni'; oriented = oriented'; sun = sun' })
same_lights omni omni' oriented oriented' sun sun' e f g = cc

gathered_lights : (seed : ℕ) (ss : List Source) (held : Lights) (words : Lcg) → Gathered (stream_of seed 3) ss held words → held ≡ lights_of (stream_word seed 3) ss
unfolding lights_of
gathered_lights seed ss held words h = same_lights held.omni _ held.oriented _ held.sun _ h.omni h.oriented h.sun

pub ends : (text : List ℕ) (seed : ℕ) (rest : List Line) (held : Lights) (words : Lcg) (so_far : ℕ) → spoken_in rest ≡ [] → Progress text seed rest held words so_far → (fault_in text ≡ None) × (held ≡ lights text seed)
unfolding lights fault_in
ends text seed rest held words so_far e p =
    let all = reader.ends fault_of text p.seen (spoken_in rest) e p.lines in (
      all.0,
      gathered_lights seed (sources p.seen) held words p.gathered ∙ ap (λ (ls : List Line). lights_of (stream_word seed 3) (sources ls)) (sym all.1),
    )
