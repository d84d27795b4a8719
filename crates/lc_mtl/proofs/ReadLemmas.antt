-- A reader's progress through the lines of a text.
use Rattle.std.proofs.Common.{◌≡◌, ℕ, ◌+◌, ◌<◌, ◌≤◌, Bool, true, false, cond, List, [], ◌∷◌, ◌++◌, length, Option, Some, None, refl, sym, ap, ◌∙◌, arith, nat_lt, subst}
use Rattle.std.specs.Prelude.{count_by, option_map}
use Rattle.std.proofs.lemmas.List.Sums.{sum_by_push}
use Rattle.std.proofs.lemmas.Bool.{ltb-true}
use Rattle.lc_scan.specs.Lines.{Line, lines}
use Rattle.lc_scan.specs.Fields.{fields, rest}
use Rattle.lc_scan.specs.Spoken.{spoken, spoken_in}
use Rattle.lc_scan.proofs.LineTestLemmas.{no_kind}
use Rattle.lc_scan.proofs.ReaderLemmas as reader
use Rattle.lc_mtl.specs.FaultKinds.{kind_number}
use Rattle.lc_scan.specs.LineTests.{first_kind, unless}
use Rattle.lc_mtl.specs.MtlLine.{entry_by, entry_of, keyword_of, kind_by, kind_of}
use Rattle.lc_mtl.specs.MtlFile.{is_begin, begins, fault_of, fault_in, materials_in}
use Rattle.lc_mtl.specs.Drafts.{taken}
use Rattle.lc_mtl.specs.declared.entry.Entry.{Entry}
use Rattle.lc_mtl.specs.declared.keyword.Keyword.{Keyword}
use Rattle.lc_mtl.specs.declared.keyword.Keyword.TheVariants as keyword
use Rattle.lc_mtl.specs.declared.fault_kind.FaultKind.{FaultKind}
use Rattle.lc_mtl.specs.declared.fault_kind.FaultKind.TheVariants as kind
use Rattle.lc_mtl.specs.declared.material.Material.{Material}
use Rattle.lc_mtl.proofs.FileLemmas.{counted, one_line_more}

-- ---- room for materials

-- a line that begins a material and has no fault comes while there is room
room_by : (held begun : ℕ) (o : Option Keyword) (name : List ℕ) (values : List (List ℕ)) → kind_by held begun o name values ≡ None → is_begin (option_map (λ (key : Keyword). entry_by key values) o) ≡ true → held + begun < 4096
room_by held begun None name values none starts = absurd cc
room_by held begun (Some keyword.Diffuse) name values none starts = absurd cc
room_by held begun (Some keyword.Specular) name values none starts = absurd cc
room_by held begun (Some keyword.Exponent) name values none starts = absurd cc
room_by held begun (Some keyword.Material) name values none starts = by_tests (nat_lt 0 (length name)) (nat_lt (held + begun) 4096) refl none
  where
    by_tests : (named room : Bool) → nat_lt (held + begun) 4096 ≡ room → first_kind (unless named kind.Name ∷ unless room kind.TooMany ∷ []) ≡ None → held + begun < 4096
    by_tests false room e none = absurd cc
    by_tests true false e none = absurd cc
    by_tests true true e none = ltb-true (held + begun) 4096 e

room : (held begun : ℕ) (name : List ℕ) (fs : List (List ℕ)) → kind_of held begun name fs ≡ None → is_begin (entry_of fs) ≡ true → held + begun < 4096
unfolding kind_of entry_of
room held begun name [] none starts = absurd cc
room held begun name (word ∷ values) none starts = room_by held begun (keyword_of word) name values none starts

-- with a line more that has no fault there are not too many
pub one_more_fits : (held : ℕ) (ls : List Line) (l : Line) → fault_of held ls l ≡ None → held + count_by begins ls ≤ 4096 → held + count_by begins (ls ++ l ∷ []) ≤ 4096
one_more_fits held ls l good few = by_test (begins l) refl
  where
    one : (b : Bool) → begins l ≡ b → count_by begins (ls ++ l ∷ []) ≡ count_by begins ls + cond b 1 0
    one b e = sum_by_push (λ (k : Line). cond (begins k) 1 0) ls l ∙ ap (λ (x : Bool). count_by begins ls + cond x 1 0) e

    by_test : (b : Bool) → begins l ≡ b → held + count_by begins (ls ++ l ∷ []) ≤ 4096
    by_test true e =
        let lt = room held (count_by begins ls) (rest l.bytes) (fields l.bytes) (no_kind kind_number _ good) e in
        omega (arith, one true e, lt)
    by_test false e = omega (arith, one false e, few)

-- ---- a reader's progress

-- the lines seen, the materials that they give, and what they and the rest say of the text
pub record Reading (held : ℕ) (text : List ℕ) (left : List Line) (drafts : List Material) : Type 0 where
  pub seen : List Line
  pub progress : reader.Progress (fault_of held) text seen (spoken_in left)
  pub drafts_are : drafts ≡ materials_in seen
  pub few : held + length drafts ≤ 4096

no_materials : [] ≡ materials_in []
unfolding materials_in
no_materials = refl

pub start : (held : ℕ) (text : List ℕ) (left : List Line) (drafts : List Material) → held ≤ 4096 → left ≡ lines text → drafts ≡ [] → Reading held text left drafts
start held text left drafts few e d = record {
  seen = [];
  progress = subst (λ (ls : List Line). reader.Progress (fault_of held) text [] (spoken_in ls)) (sym e) (reader.start (fault_of held) text);
  drafts_are = d ∙ no_materials;
  few = omega (arith, few, ap (λ (ms : List Material). length ms) d);
}

-- the judge of a line counts the materials that lines before it begin
judged : (held : ℕ) (seen : List Line) (l : Line) (drafts : List Material) (begun : ℕ) (o : Option FaultKind) → drafts ≡ materials_in seen → begun ≡ length drafts → kind_of held begun (rest l.bytes) (fields l.bytes) ≡ o → fault_of held seen l ≡ option_map kind_number o
judged held seen l drafts begun o d n k =
    ap (option_map kind_number) (ap (λ (m : ℕ). kind_of held m (rest l.bytes) (fields l.bytes)) (sym (n ∙ ap (λ (ms : List Material). length ms) d ∙ counted seen)) ∙ k)

pub takes : (held : ℕ) (text : List ℕ) (left later : List Line) (l : Line) (drafts more : List Material) (begun : ℕ) (o : Option Entry) → spoken_in left ≡ l ∷ spoken_in later → begun ≡ length drafts → kind_of held begun (rest l.bytes) (fields l.bytes) ≡ None → entry_of (fields l.bytes) ≡ o
    → more ≡ taken o (rest l.bytes) drafts → Reading held text left drafts → Reading held text later more
takes held text left later l drafts more begun o e n k says m p =
    let good : fault_of held p.seen l ≡ None = judged held p.seen l drafts begun None p.drafts_are n k in
    let now : more ≡ materials_in (p.seen ++ l ∷ []) = m ∙ ap (taken o (rest l.bytes)) p.drafts_are ∙ sym (one_line_more p.seen l o says) in
    let before : held + count_by begins p.seen ≤ 4096 = omega (arith, p.few, ap (λ (ms : List Material). length ms) p.drafts_are, counted p.seen) in
    record {
      seen = p.seen ++ l ∷ [];
      progress = reader.takes (fault_of held) text p.seen (spoken_in left) (spoken_in later) l e good p.progress;
      drafts_are = now;
      few = omega (arith, one_more_fits held p.seen l good before, ap (λ (ms : List Material). length ms) now, counted (p.seen ++ l ∷ []));
    }

pub stops : (held : ℕ) (text : List ℕ) (left later : List Line) (l : Line) (drafts : List Material) (begun shown : ℕ) (kind : FaultKind) → spoken_in left ≡ l ∷ spoken_in later → begun ≡ length drafts → kind_of held begun (rest l.bytes) (fields l.bytes) ≡ Some kind → shown ≡ kind_number kind
    → Reading held text left drafts → fault_in held text ≡ Some (record { line = l.number; kind = shown })
unfolding fault_in
stops held text left later l drafts begun shown kind e n k s p =
    let bad : fault_of held p.seen l ≡ Some (kind_number kind) = judged held p.seen l drafts begun (Some kind) p.drafts_are n k in
    reader.stops (fault_of held) text p.seen (spoken_in left) (spoken_in later) l (kind_number kind) e bad p.progress ∙ ap (λ (m : ℕ). Some (record { line = l.number; kind = m })) (sym s)

pub ends : (held : ℕ) (text : List ℕ) (left : List Line) (drafts : List Material) → spoken_in left ≡ [] → Reading held text left drafts → (fault_in held text ≡ None) × (drafts ≡ materials_in (spoken text))
unfolding fault_in
ends held text left drafts e p =
    let both = reader.ends (fault_of held) text p.seen (spoken_in left) e p.progress in (both.0, p.drafts_are ∙ ap materials_in (sym both.1))
