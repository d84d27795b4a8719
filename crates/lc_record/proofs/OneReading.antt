-- A text has one reading: one record whose text it is, or one first fault.
use Rattle.std.proofs.Common.{◌≡◌, ◌≢◌, ℕ, ◌+◌, ◌<◌, ◌≤◌, cond, ltb, List, [], ◌∷◌, ◌++◌, length, flat_map, Result, Ok, Err, refl, sym, ap, subst, ◌∙◌, arith, append_assoc, append-nil, length-append, inl, inr}
use Rattle.std.specs.Prelude.{All, IfOk, IfErr}
use Rattle.std.proofs.lemmas.Bool.{le-ltb, lt-ltb}
use Rattle.std.proofs.lemmas.List.Elements.{All-head, All-tail}
use Rattle.lc_num.specs.Faults.{Fault}
use Rattle.lc_rated.specs.declared.answer.Answer.{Answer}
use Rattle.lc_record.specs.declared.head.Header.{Header}
use Rattle.lc_record.specs.declared.fault_kind.FaultKind.{FaultKind}
use Rattle.lc_record.specs.declared.fault_kind.FaultKind.TheVariants as kind
use Rattle.lc_record.specs.declared.reader.Record.{Record}
use Rattle.lc_record.specs.declared.stop.RecordStop.{RecordStop}
use Rattle.lc_record.specs.declared.stop.RecordStop.TheVariants as stop
use Rattle.lc_record.specs.Record.{IsHeader, IsSample, record_header, line_bytes, text}
use Rattle.lc_record.specs.Reading.{Begins, BeginsWithLines, IsFirstFault, IsLineFault, IsStop, IsTextOf, OrMemory, after_header, differs, ends, fault_after, goes_on, no_header, samples}
use Rattle.lc_record.specs.Pieces.{AreLinesOf}
use Rattle.lc_record.proofs.LinesRead.{line_not_empty}
use Rattle.lc_record.proofs.Pieces.{headers_same, lines_same}

-- as many lines as follow a header, and what follows them
record IsLongest (h : Header) (answers : List Answer) (rest bytes : List ℕ) : Type 0 where
  begins : BeginsWithLines h answers rest bytes
  within : length answers ≤ samples h
  no_more : length answers < samples h → Begins (IsSample h.cut) line_bytes rest → ⊥

module _ (h : Header) (few : h.cut ≤ 65_536) where
  -- the longest run of lines from some line on is one
  same : (k : ℕ) (xs ys : List Answer) (x y : List ℕ) → All (IsSample h.cut) xs → All (IsSample h.cut) ys
      → k + length xs ≤ samples h → k + length ys ≤ samples h
      → (k + length xs < samples h → Begins (IsSample h.cut) line_bytes x → ⊥) → (k + length ys < samples h → Begins (IsSample h.cut) line_bytes y → ⊥)
      → flat_map line_bytes xs ++ x ≡ flat_map line_bytes ys ++ y → (xs ≡ ys) × (x ≡ y)
  same k [] [] x y v w m n p q e = (refl, e)
  same k [] (b ∷ ys) x y v w m n p q e =
      absurd (p (omega arith) (b, flat_map line_bytes ys ++ y, All-head (IsSample h.cut) b ys w, e ∙ append_assoc (line_bytes b) (flat_map line_bytes ys) y))
  same k (a ∷ xs) [] x y v w m n p q e =
      absurd (q (omega arith) (a, flat_map line_bytes xs ++ x, All-head (IsSample h.cut) a xs v, sym e ∙ append_assoc (line_bytes a) (flat_map line_bytes xs) x))
  same k (a ∷ xs) (b ∷ ys) x y v w m n p q e =
      let first = lines_same h.cut a b (flat_map line_bytes xs ++ x) (flat_map line_bytes ys ++ y) few (All-head (IsSample h.cut) a xs v) (All-head (IsSample h.cut) b ys w)
      (sym (append_assoc (line_bytes a) (flat_map line_bytes xs) x) ∙ e ∙ append_assoc (line_bytes b) (flat_map line_bytes ys) y) in
      let others = same (k + 1) xs ys x y (All-tail (IsSample h.cut) a xs v) (All-tail (IsSample h.cut) b ys w) (omega arith) (omega arith)
      (λ below. p (omega arith)) (λ below. q (omega arith)) first.1 in
      (ap (λ (c : Answer). c ∷ xs) first.0 ∙ ap (λ (cs : List Answer). b ∷ cs) others.0, others.1)

  longest_same : (xs ys : List Answer) (x y bytes : List ℕ) → IsLongest h xs x bytes → IsLongest h ys y bytes → (xs ≡ ys) × (x ≡ y)
  longest_same xs ys x y bytes l m =
      same 0 xs ys x y l.begins.valid m.begins.valid (omega (arith, l.within)) (omega (arith, m.within))
      (λ below. l.no_more (omega arith)) (λ below. m.no_more (omega arith)) (sym l.begins.lines ∙ m.begins.lines)

no_line : (cut : ℕ) → Begins (IsSample cut) line_bytes [] → ⊥
no_line cut (a, rest, valid, e) =
    let none = ap (λ (bs : List ℕ). length bs) e in omega (arith, none, length-append (line_bytes a) rest, line_not_empty a)

text_longest : (h : Header) (answers : List Answer) (bytes : List ℕ) → AreLinesOf h answers bytes → IsLongest h answers [] bytes
text_longest h answers bytes t = record {
  begins = record { valid = t.valid; lines = t.lines ∙ sym (append-nil (flat_map line_bytes answers)) };
  within = omega (arith, t.count);
  no_more = λ below. no_line h.cut;
}

-- the kind of the fault where k of n lines stand
kind_at : ℕ → ℕ → List ℕ → FaultKind
kind_at n k [] = kind.Count
kind_at n k (b ∷ bs) = cond (ltb k n) kind.Line kind.Count

kind_differs : (n k : ℕ) (rest : List ℕ) → rest ≢ [] → k < n → kind_at n k rest ≡ kind.Line
unfolding kind_at
kind_differs n k [] some below = absurd (some refl)
kind_differs n k (b ∷ bs) some below = rw (lt-ltb k n below) refl

kind_ends : (n k : ℕ) → kind_at n k [] ≡ kind.Count
unfolding kind_at
kind_ends n k = refl

kind_goes_on : (n k : ℕ) (rest : List ℕ) → k ≡ n → kind_at n k rest ≡ kind.Count
unfolding kind_at
kind_goes_on n k [] all = refl
kind_goes_on n k (b ∷ bs) all = rw (le-ltb k n (omega arith)) refl

-- the fault where the longest run of lines ends
record EndsAt (h : Header) (bytes : List ℕ) (fault : Fault) : Type 0 where
  answers : List Answer
  rest : List ℕ
  longest : IsLongest h answers rest bytes
  incomplete : rest ≡ [] → length answers ≡ samples h → ⊥
  is : fault ≡ fault_after (length answers) (kind_at (samples h) (length answers) rest)

ends_at : (h : Header) (bytes : List ℕ) (fault : Fault) → IsLineFault h bytes fault → EndsAt h bytes fault
ends_at h bytes fault (differs answers rest begins below some none is) = record {
  answers = answers;
  rest = rest;
  longest = record { begins = begins; within = omega arith; no_more = λ _. none };
  incomplete = λ empty _. some empty;
  is = is ∙ ap (λ (k : FaultKind). fault_after (length answers) k) (sym (kind_differs (samples h) (length answers) rest some below));
}
ends_at h bytes fault (ends answers begins below is) = record {
  answers = answers;
  rest = [];
  longest = record { begins = begins; within = omega arith; no_more = λ _. no_line h.cut };
  incomplete = λ _ all. omega arith;
  is = is ∙ ap (λ (k : FaultKind). fault_after (length answers) k) (sym (kind_ends (samples h) (length answers)));
}
ends_at h bytes fault (goes_on answers rest begins all some is) = record {
  answers = answers;
  rest = rest;
  longest = record { begins = begins; within = omega arith; no_more = λ below. absurd (omega arith) };
  incomplete = λ empty _. some empty;
  is = is ∙ ap (λ (k : FaultKind). fault_after (length answers) k) (sym (kind_goes_on (samples h) (length answers) rest all));
}

line_fault_same : (h : Header) (bytes : List ℕ) (f g : Fault) → h.cut ≤ 65_536 → IsLineFault h bytes f → IsLineFault h bytes g → f ≡ g
line_fault_same h bytes f g few p q =
    let u : EndsAt h bytes f = ends_at h bytes f p in
    let v : EndsAt h bytes g = ends_at h bytes g q in
    let one = longest_same h few u.answers v.answers u.rest v.rest bytes u.longest v.longest in
    u.is
    ∙ ap (λ (xs : List Answer). fault_after (length xs) (kind_at (samples h) (length xs) u.rest)) one.0
    ∙ ap (λ (r : List ℕ). fault_after (length v.answers) (kind_at (samples h) (length v.answers) r)) one.1
    ∙ sym v.is

lines_or_fault : (h : Header) (answers : List Answer) (bytes : List ℕ) (f : Fault) → h.cut ≤ 65_536 → AreLinesOf h answers bytes → IsLineFault h bytes f → ⊥
lines_or_fault h answers bytes f few t p =
    let v : EndsAt h bytes f = ends_at h bytes f p in
    let one = longest_same h few answers v.answers [] v.rest bytes (text_longest h answers bytes t) v.longest in
    let count = ap (λ (xs : List Answer). length xs) one.0 in
    v.incomplete (sym one.1) (omega (arith, count, t.count))

-- a header and its lines are a text
pub text_of : (h : Header) (answers : List Answer) (rest bytes : List ℕ) → IsHeader h → bytes ≡ record_header h ++ rest → AreLinesOf h answers rest → IsTextOf h answers bytes
unfolding text
text_of h answers rest bytes valid begins t = record {
  header = valid;
  valid = t.valid;
  count = t.count;
  whole = begins ∙ ap (λ (r : List ℕ). record_header h ++ r) t.lines;
}

-- a fault of the lines after a header is the first one
pub stop_after : (h : Header) (rest bytes : List ℕ) → IsHeader h → bytes ≡ record_header h ++ rest → (s : RecordStop) → IsStop s (IsLineFault h rest) → IsStop s (IsFirstFault bytes)
stop_after h rest bytes valid begins stop.Memory fault = tt
stop_after h rest bytes valid begins (stop.Fault line k) fault = after_header h rest valid begins fault

lines_of_text : (h : Header) (answers : List Answer) (bytes : List ℕ) → IsTextOf h answers bytes → bytes ≡ record_header h ++ flat_map line_bytes answers
unfolding text
lines_of_text h answers bytes t = t.whole

after_text : (h : Header) (answers : List Answer) (bytes : List ℕ) → IsTextOf h answers bytes → AreLinesOf h answers (flat_map line_bytes answers)
after_text h answers bytes t = record { valid = t.valid; count = t.count; lines = refl }

-- there is one first fault
pub fault_same : (bytes : List ℕ) (f g : Fault) → IsFirstFault bytes f → IsFirstFault bytes g → f ≡ g
fault_same bytes f g (no_header none e) (no_header none' e') = e ∙ sym e'
fault_same bytes f g (no_header none e) (after_header h rest valid begins fault) = absurd (none (h, rest, valid, begins))
fault_same bytes f g (after_header h rest valid begins fault) (no_header none e) = absurd (none (h, rest, valid, begins))
fault_same bytes f g (after_header h rest valid begins fault) (after_header k other valid' begins' fault') =
    let one = headers_same h k rest other valid valid' (sym begins ∙ begins') in
    let here : IsLineFault k other f = subst (λ (r : List ℕ). IsLineFault k r f) one.1 (subst (λ (i : Header). IsLineFault i rest f) one.0 fault) in
    line_fault_same k other f g (omega (arith, valid'.cut)) here fault'

-- a record's text has no fault
pub text_or_fault : (h : Header) (answers : List Answer) (bytes : List ℕ) (f : Fault) → IsTextOf h answers bytes → IsFirstFault bytes f → ⊥
text_or_fault h answers bytes f t (no_header none e) = none (h, flat_map line_bytes answers, t.header, lines_of_text h answers bytes t)
text_or_fault h answers bytes f t (after_header k rest valid begins fault) =
    let one = headers_same h k (flat_map line_bytes answers) rest t.header valid (sym (lines_of_text h answers bytes t) ∙ begins) in
    let here : AreLinesOf k answers rest =
    subst (λ (r : List ℕ). AreLinesOf k answers r) one.1 (subst (λ (i : Header). AreLinesOf i answers (flat_map line_bytes answers)) one.0 (after_text h answers bytes t)) in
    lines_or_fault k answers rest f (omega (arith, valid.cut)) here fault

-- it is the text of one record
pub text_same : (h k : Header) (xs ys : List Answer) (bytes : List ℕ) → IsTextOf h xs bytes → IsTextOf k ys bytes → (h ≡ k) × (xs ≡ ys)
text_same h k xs ys bytes t u =
    let one = headers_same h k (flat_map line_bytes xs) (flat_map line_bytes ys) t.header u.header (sym (lines_of_text h xs bytes t) ∙ lines_of_text k ys bytes u) in
    let here : AreLinesOf k xs (flat_map line_bytes ys) =
    subst (λ (r : List ℕ). AreLinesOf k xs r) one.1 (subst (λ (i : Header). AreLinesOf i xs (flat_map line_bytes xs)) one.0 (after_text h xs bytes t)) in
    (one.0, (longest_same k (omega (arith, u.header.cut)) xs ys [] [] (flat_map line_bytes ys) (text_longest k xs _ here) (text_longest k ys _ (after_text k ys bytes u))).0)

abbrev read_of : Header → List Answer → Result Record RecordStop
read_of h answers = Ok (record { header = h; lines = answers })

abbrev fault_answer : Fault → Result Record RecordStop
fault_answer f = Err (stop.Fault f.line f.kind)

-- so an answer that is right is the only one
pub only : (result : Result Record RecordStop) (bytes : List ℕ) → IfOk result (λ read. IsTextOf read.header read.lines bytes) → IfErr result (λ stop. IsStop stop (IsFirstFault bytes))
    → (h : Header) (answers : List Answer) → IsTextOf h answers bytes → OrMemory result (Ok (record { header = h; lines = answers }))
only (Ok read) bytes ok fault h answers t =
    let one = text_same read.header h read.lines answers bytes ok t in
    inl (ap (λ (i : Header). read_of i read.lines) one.0 ∙ ap (λ (xs : List Answer). read_of h xs) one.1)
only (Err stop.Memory) bytes ok fault h answers t = inr refl
only (Err (stop.Fault line kind)) bytes ok fault h answers t = absurd (text_or_fault h answers bytes _ t fault)

pub exact : (result : Result Record RecordStop) (bytes : List ℕ) → IfOk result (λ read. IsTextOf read.header read.lines bytes) → IfErr result (λ stop. IsStop stop (IsFirstFault bytes))
    → (f : Fault) → IsFirstFault bytes f → OrMemory result (Err (stop.Fault f.line f.kind))
exact (Ok read) bytes ok fault f t = absurd (text_or_fault read.header read.lines bytes f ok t)
exact (Err stop.Memory) bytes ok fault f t = inr refl
exact (Err (stop.Fault line kind)) bytes ok fault f t = inl (ap (λ (g : Fault). fault_answer g) (fault_same bytes _ f fault t))
