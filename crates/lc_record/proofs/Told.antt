-- What a text tells is the record that it is the text of, or its first fault.
use Rattle.std.proofs.Common.{◌≡◌, ◌≢◌, ◌⊎◌, ℕ, zero, suc, ◌+◌, ◌<◌, false, Option, Some, None, List, [], ◌∷◌, ◌++◌, length, flat_map, nat_eq, ok_or, is_ok, Result, Ok, Err, true≢false, refl, sym, ap, subst, ◌∙◌, arith, inl, inr, length-append}
use Rattle.std.specs.Prelude.{Contains, All, IfErr, IfOk}
use Rattle.std.specs.List.{starts_with}
use Rattle.std.proofs.lemmas.List.Elements.{All-cons, All-contains, All-nil}
use Rattle.std.proofs.lemmas.Slice.Eq.{starts_is}
use Rattle.std.specs.Cmp.{unsigned_Decides}
use Rattle.lc_num.specs.Faults.{Fault}
use Rattle.lc_rated.specs.declared.answer.Answer.{Answer}
use Rattle.lc_record.specs.declared.head.Header.{Header}
use Rattle.lc_record.specs.declared.fault_kind.FaultKind.TheVariants as kind
use Rattle.lc_record.specs.declared.reader.Record.{Record}
use Rattle.lc_record.specs.declared.stop.RecordStop.{RecordStop}
use Rattle.lc_record.specs.declared.stop.RecordStop.TheVariants as stop
use Rattle.lc_record.specs.Record.{IsHeader, IsSample, record_header, line_bytes}
use Rattle.lc_record.specs.Reading.{Begins, BeginsWithLines, IsFirstFault, IsLineFault, IsStop, IsTextOf, after_header, differs, ends, fault_after, goes_on, no_header, samples}
use Rattle.lc_record.specs.Readings.{after, and_then, answers, headers, lines_in, missing, record_in, told_by}
use Rattle.lc_record.proofs.EveryValue.{answers_have, answers_within, headers_have, headers_within}
use Rattle.lc_record.proofs.Listing.{find_none, find_some}
use Rattle.lc_record.proofs.LinesRead.{more}
use Rattle.lc_record.proofs.OneReading.{fault_same, text_of, text_or_fault, text_same}

-- ---- results

err_or_ok : {A E : Type 0} (fault : E) (value : A) → Err fault ≡ Ok value → ⊥
err_or_ok fault value e = true≢false (sym (ap is_ok e))

-- a found value, or a fault, of two steps
then_ok : {A B : Type 0} (r : Result A Fault) (next : A → Result B Fault) (b : B) → and_then r next ≡ Ok b → (a : A) × (r ≡ Ok a) × (next a ≡ Ok b)
then_ok (Ok a) next b e = (a, refl, e)
then_ok (Err fault) next b e = absurd (err_or_ok fault b e)

then_err : {A B : Type 0} (r : Result A Fault) (next : A → Result B Fault) (f : Fault) → and_then r next ≡ Err f
    → (r ≡ Err f) ⊎ ((a : A) × (r ≡ Ok a) × (next a ≡ Err f))
then_err (Ok a) next f e = inr (a, refl, e)
then_err (Err fault) next f e = inl (let same : fault ≡ f = cc in ap Err same)

found : {A : Type 0} (o : Option A) (fault : Fault) (a : A) → ok_or o fault ≡ Ok a → o ≡ Some a
found (Some x) fault a e = let same : x ≡ a = cc in ap Some same
found None fault a e = absurd (err_or_ok fault a e)

lost : {A : Type 0} (o : Option A) (fault f : Fault) → ok_or o fault ≡ Err f → (o ≡ None) × (f ≡ fault)
lost (Some x) fault f e = absurd (err_or_ok f x (sym e))
lost None fault f e = (refl, cc)

-- ---- values at the front of a text

module _ {A : Type 0} (written : A → List ℕ) (values : List A) (IsAllowed : A → Type 0) (bytes : List ℕ) where
  told_some : (a : A) → All IsAllowed values → told_by written values bytes ≡ Some a → IsAllowed a × (bytes ≡ written a ++ after (written a) bytes)
  told_some a all e =
      let first = find_some (λ value. starts_with nat_eq bytes (written value)) IsAllowed values a all e in
      (first.0, (starts_is unsigned_Decides bytes (written a) (starts_with nat_eq bytes (written a)) refl).0 first.1)

  told_none : ((a : A) → IsAllowed a → Contains values a) → told_by written values bytes ≡ None → Begins IsAllowed written bytes → ⊥
  told_none have e (a, rest, allowed, begins) =
      let off = All-contains (λ value. starts_with nat_eq bytes (written value) ≡ false) values a (find_none (λ value. starts_with nat_eq bytes (written value)) values e) (have a allowed) in
      let on = (starts_is unsigned_Decides bytes (written a) (starts_with nat_eq bytes (written a)) refl).1 rest begins in
      true≢false (sym on ∙ off)

-- ---- lines

-- the lines of these answers, so many, and nothing else
record AreLines (left cut : ℕ) (bytes : List ℕ) (lines : List Answer) : Type 0 where
  valid : All (IsSample cut) lines
  count : length lines ≡ left
  whole : bytes ≡ flat_map line_bytes lines

lines_told : (left before cut : ℕ) (bytes : List ℕ) (lines : List Answer) → lines_in left before cut bytes ≡ Ok lines → AreLines left cut bytes lines
unfolding lines_in
lines_told zero before cut [] lines e =
    let none : [] ≡ lines = cc in
    subst (AreLines zero cut []) none (record { valid = All-nil (IsSample cut); count = refl; whole = refl })
lines_told zero before cut (b ∷ bs) lines e = absurd (err_or_ok _ lines e)
lines_told (suc left) before cut bytes lines e =
    let first = then_ok _ _ lines e in
    let a = first.0 in
    let line = told_some line_bytes (answers cut) (IsSample cut) bytes a (answers_within cut) (found _ _ a first.1) in
    let others = then_ok _ _ lines first.2 in
    let rest : AreLines left cut (after (line_bytes a) bytes) others.0 = lines_told left (before + 1) cut (after (line_bytes a) bytes) others.0 others.1 in
    let is : a ∷ others.0 ≡ lines = let all = others.2 in cc in
    subst (AreLines (suc left) cut bytes) is (record {
      valid = All-cons (IsSample cut) a others.0 line.0 rest.valid;
      count = omega (arith, rest.count);
      whole = line.1 ∙ ap (λ (bs : List ℕ). line_bytes a ++ bs) rest.whole;
    })

not_empty : (b : ℕ) (bs : List ℕ) → b ∷ bs ≢ []
not_empty b bs e = let none : length (b ∷ bs) ≡ 0 = ap (λ (xs : List ℕ). length xs) e in omega (arith, none)

module _ (h : Header) (whole : List ℕ) (f : Fault) where
  -- no line where one should stand
  no_line_here : (bytes : List ℕ) (done : List Answer) (before : ℕ) → BeginsWithLines h done bytes whole → length done ≡ before → before < samples h
      → (Begins (IsSample h.cut) line_bytes bytes → ⊥) → f ≡ fault_after before (missing bytes) → IsLineFault h whole f
  no_line_here [] done before begins count below none e =
      ends done begins (omega arith) (e ∙ ap (λ (n : ℕ). fault_after n kind.Count) (sym count))
  no_line_here (b ∷ bs) done before begins count below none e =
      differs done (b ∷ bs) begins (omega arith) (not_empty b bs) none (e ∙ ap (λ (n : ℕ). fault_after n kind.Line) (sym count))

  line_fault_told : (left before : ℕ) (bytes : List ℕ) (done : List Answer) → BeginsWithLines h done bytes whole → length done ≡ before → before + left ≡ samples h
      → lines_in left before h.cut bytes ≡ Err f → IsLineFault h whole f
  unfolding lines_in
  line_fault_told zero before [] done begins count all e = absurd (err_or_ok f [] (sym e))
  line_fault_told zero before (b ∷ bs) done begins count all e =
      let is : f ≡ fault_after before kind.Count = cc in
      goes_on done (b ∷ bs) begins (omega arith) (not_empty b bs) (is ∙ ap (λ (n : ℕ). fault_after n kind.Count) (sym count))
  line_fault_told (suc left) before bytes done begins count all e = elim (then_err _ _ f e) [
    | inl here ↦
        let none = lost _ _ f here in
        no_line_here bytes done before begins count (omega arith) (told_none line_bytes (answers h.cut) (IsSample h.cut) bytes (answers_have h.cut) none.0) none.1
    | inr (a, first, next) ↦
        let line = told_some line_bytes (answers h.cut) (IsSample h.cut) bytes a (answers_within h.cut) (found _ _ a first) in
        elim (then_err _ _ f next) [
          | inl later ↦
              line_fault_told left (before + 1) (after (line_bytes a) bytes) (done ++ a ∷ [])
              (more h done bytes whole begins a (after (line_bytes a) bytes) line.0 line.1)
              (omega (arith, count, length-append done (a ∷ []))) (omega arith) later
          | inr (others, ok, other) ↦ absurd (err_or_ok f (a ∷ others) (sym other))
        ]
  ]

-- ---- records

header_told : (bytes : List ℕ) (h : Header) → told_by record_header headers bytes ≡ Some h → IsHeader h × (bytes ≡ record_header h ++ after (record_header h) bytes)
header_told bytes h e = told_some record_header headers IsHeader bytes h headers_within e

pub text_told : (bytes : List ℕ) (r : Record) → record_in bytes ≡ Ok r → IsTextOf r.header r.lines bytes
unfolding record_in
text_told bytes r e =
    let first = then_ok _ _ r e in
    let h = first.0 in
    let head = header_told bytes h (found _ _ h first.1) in
    let others = then_ok _ _ r first.2 in
    let lines = lines_told (samples h) 0 h.cut (after (record_header h) bytes) others.0 others.1 in
    let whole : Record = record { header = h; lines = others.0 } in
    let is : whole ≡ r = let all = others.2 in cc in
    subst (λ (s : Record). IsTextOf s.header s.lines bytes) is
    (text_of h others.0 (after (record_header h) bytes) bytes head.0 head.1 (record { valid = lines.valid; count = lines.count; lines = lines.whole }))

pub fault_told : (bytes : List ℕ) (f : Fault) → record_in bytes ≡ Err f → IsFirstFault bytes f
unfolding record_in
fault_told bytes f e = elim (then_err _ _ f e) [
  | inl here ↦
      let none = lost _ _ f here in
      no_header (told_none record_header headers IsHeader bytes headers_have none.0) none.1
  | inr (h, first, next) ↦
      let head = header_told bytes h (found _ _ h first) in
      elim (then_err _ _ f next) [
        | inl later ↦
            after_header h (after (record_header h) bytes) head.0 head.1
            (line_fault_told h (after (record_header h) bytes) f (samples h) 0 (after (record_header h) bytes) []
            (record { valid = All-nil (IsSample h.cut); lines = refl }) refl (omega arith) later)
        | inr (lines, ok, other) ↦ absurd (err_or_ok f (record { header = h; lines = lines }) (sym other))
      ]
]

-- ---- the other way round, since a text has one reading

told : (bytes : List ℕ) (r : Result Record Fault) → record_in bytes ≡ r → (h : Header) (lines : List Answer) → IsTextOf h lines bytes
    → record_in bytes ≡ Ok (record { header = h; lines = lines })
told bytes (Ok read) e h lines text =
    let one = text_same read.header h read.lines lines bytes (text_told bytes read e) text in
    e ∙ ap (λ (i : Header). read_as i read.lines) one.0 ∙ ap (λ (xs : List Answer). read_as h xs) one.1 where
      read_as : Header → List Answer → Result Record Fault
      read_as i xs = Ok (record { header = i; lines = xs })
told bytes (Err f) e h lines text = absurd (text_or_fault h lines bytes f text (fault_told bytes f e))

pub text_read : (h : Header) (lines : List Answer) (bytes : List ℕ) → IsTextOf h lines bytes → record_in bytes ≡ Ok (record { header = h; lines = lines })
text_read h lines bytes text = told bytes (record_in bytes) refl h lines text

refused : (bytes : List ℕ) (r : Result Record Fault) → record_in bytes ≡ r → (f : Fault) → IsFirstFault bytes f → record_in bytes ≡ Err f
refused bytes (Ok read) e f first = absurd (text_or_fault read.header read.lines bytes f (text_told bytes read e) first)
refused bytes (Err g) e f first = e ∙ ap Err (fault_same bytes g f (fault_told bytes g e) first)

pub fault_read : (bytes : List ℕ) (f : Fault) → IsFirstFault bytes f → record_in bytes ≡ Err f
fault_read bytes f first = refused bytes (record_in bytes) refl f first

-- ---- what is read of a text

pub value_told : (result : Result Record RecordStop) (bytes : List ℕ) → IfOk result (λ read. IsTextOf read.header read.lines bytes)
    → IfOk result (λ read. record_in bytes ≡ Ok read)
value_told (Ok read) bytes ok = text_read read.header read.lines bytes ok
value_told (Err s) bytes ok = tt

pub refusal_told : (result : Result Record RecordStop) (bytes : List ℕ) → IfErr result (λ stop. IsStop stop (IsFirstFault bytes))
    → IfErr result (λ stop. IsStop stop (λ fault. record_in bytes ≡ Err fault))
refusal_told (Ok read) bytes fault = tt
refusal_told (Err stop.Memory) bytes fault = tt
refusal_told (Err (stop.Fault line kind)) bytes fault = fault_read bytes (record { line = line; kind = kind }) fault
