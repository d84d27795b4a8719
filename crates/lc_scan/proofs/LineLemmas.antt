-- The first logical line, found piece by piece.
use Rattle.std.proofs.Common.{◌≡◌, ℕ, ◌+◌, ◌<◌, ◌≤◌, Bool, true, false, cond, List, [], ◌∷◌, ◌++◌, length, get_or, take, drop, Some, None, refl, sym, ap, ◌∙◌, append_assoc, arith}
use Rattle.std.specs.List.{onto_first, position_or_len}
use Rattle.std.proofs.Math.Seq.{take-add}
use Rattle.std.proofs.lemmas.List.{append-nil, take-append-drop, take_more, length-drop, drop-drop}
use Rattle.std.proofs.lemmas.List.Splits.{slice_split_none, slice_split_first, length-slice_split}
use Rattle.std.proofs.lemmas.List.Elements.{All-from_get_or}
use Rattle.std.proofs.lemmas.List.Sums.{position_or_len_is}
use Rattle.std.proofs.lemmas.Bool.{false_from_ne_true, eqb-true}
use Rattle.bstr.specs.Find.{IsFirstByte, is_byte}
use Rattle.lc_scan.specs.Lines.{Line, line, is_feed, pieces, joins, joined, lines_of}

-- these bytes, and the line that they go on with, if there is one
abbrev pub going_on : ℕ → List ℕ → List Line → List Line
going_on n front [] = line n front ∷ []
going_on n front (next ∷ later) = line n (front ++ next.bytes) ∷ later

-- ---- the pieces of a text

pub pieces_none : (text : List ℕ) → IsFirstByte (is_byte 10) text None → pieces text ≡ text ∷ []
pieces_none text h = slice_split_none is_feed text (All-from_get_or (λ x. is_feed x ≡ false) text 0 (λ i lt. false_from_ne_true _ (h i (omega arith) lt)))

place : (text : List ℕ) (k : ℕ) → IsFirstByte (is_byte 10) text (Some k) → position_or_len is_feed text ≡ k
place text k h = position_or_len_is is_feed text k 0 (omega (arith, h.0.high)) (λ j lt. false_from_ne_true _ (h.0.before j (omega arith) lt)) (λ lt. h.1)

pub pieces_some : (text : List ℕ) (k : ℕ) → IsFirstByte (is_byte 10) text (Some k) → pieces text ≡ take k text ∷ pieces (drop (k + 1) text)
pieces_some text k h =
    let e = place text k h in
    slice_split_first is_feed text 0 (omega (arith, e, h.0.high)) ∙ ap (λ (n : ℕ). take n text ∷ pieces (drop (n + 1) text)) e

pub feed_at : (text : List ℕ) (k : ℕ) → IsFirstByte (is_byte 10) text (Some k) → (k < length text) × (get_or text k 0 ≡ 10)
feed_at text k h = (h.0.high, eqb-true _ _ h.1)

some_pieces : (text : List ℕ) → 0 < length (pieces text)
some_pieces text = omega (arith, length-slice_split is_feed text)

-- ---- the lines of pieces

lines_more : (n : ℕ) (piece : List ℕ) (later : List (List ℕ)) → 0 < length later → lines_of n (piece ∷ later) ≡ cond (joins piece) (joined n piece (lines_of (n + 1) later)) (line n piece ∷ lines_of (n + 1) later)
unfolding lines_of
lines_more n piece [] h = absurd (omega arith)
lines_more n piece (next ∷ later) h = refl

begins_cond : (n : ℕ) (piece : List ℕ) (b : Bool) (next later : List Line) → cond b (joined n piece next) (line n piece ∷ later) ≡ going_on n [] (cond b (joined n piece next) (line n piece ∷ later))
begins_cond n piece true [] later = refl
begins_cond n piece true (l ∷ ls) later = refl
begins_cond n piece false next later = refl

begins_pieces : (n : ℕ) (piece : List ℕ) (later : List (List ℕ)) → 0 < length piece + length later → lines_of n (piece ∷ later) ≡ going_on n [] (lines_of n (piece ∷ later))
unfolding lines_of
begins_pieces n [] [] h = absurd (omega arith)
begins_pieces n (b ∷ bs) [] h = refl
begins_pieces n piece (next ∷ later) h = begins_cond n piece (joins piece) (lines_of (n + 1) (next ∷ later)) (lines_of (n + 1) (next ∷ later))

begins_split : (n b : ℕ) (feed : Bool) (later : List (List ℕ)) → 0 < length later → lines_of n (cond feed ([] ∷ later) (onto_first b later)) ≡ going_on n [] (lines_of n (cond feed ([] ∷ later) (onto_first b later)))
begins_split n b true later h = begins_pieces n [] later (omega arith)
begins_split n b false [] h = absurd (omega arith)
begins_split n b false (piece ∷ later) h = begins_pieces n (b ∷ piece) later (omega arith)

pub begins : (n : ℕ) (text : List ℕ) → 0 < length text → lines_of n (pieces text) ≡ going_on n [] (lines_of n (pieces text))
begins n [] h = absurd (omega arith)
begins n (b ∷ bs) h = begins_split n b (is_feed b) (pieces bs) (some_pieces bs)

ends_last : (n m : ℕ) (front rest : List ℕ) → going_on n front (lines_of m (rest ∷ [])) ≡ line n (front ++ rest) ∷ []
unfolding lines_of
ends_last n m front [] = ap (λ (bs : List ℕ). line n bs ∷ []) (sym (append-nil front))
ends_last n m front (b ∷ bs) = refl

no_lines : (m : ℕ) → lines_of m ([] ∷ []) ≡ []
unfolding lines_of
no_lines m = refl

goes_joined : (n m : ℕ) (front piece : List ℕ) (next : List Line) → going_on n front (joined m piece next) ≡ going_on n (front ++ (piece ++ 10 ∷ [])) next
goes_joined n m front piece [] = refl
goes_joined n m front piece (l ∷ ls) =
    ap (λ (bs : List ℕ). line n bs ∷ ls) (ap (λ (bs : List ℕ). front ++ bs) (sym (append_assoc piece (10 ∷ []) l.bytes)) ∙ sym (append_assoc front (piece ++ 10 ∷ []) l.bytes))

-- the first `stop` bytes are joined pieces of the line `n`, and the next piece has the number `m`
pub record Passed (n m : ℕ) (text : List ℕ) (stop : ℕ) : Type 0 where
  pub within : stop ≤ length text
  pub few : m ≤ n + stop
  pub first : lines_of n (pieces text) ≡ going_on n (take stop text) (lines_of m (pieces (drop stop text)))

-- ---- the three ways on from there

-- no further line feed
pub at_end : (n m : ℕ) (text : List ℕ) (stop : ℕ) → Passed n m text stop → IsFirstByte (is_byte 10) (drop stop text) None → lines_of n (pieces text) ≡ line n text ∷ lines_of m (pieces [])
at_end n m text stop passed none =
    passed.first ∙ ap (λ (ps : List (List ℕ)). going_on n (take stop text) (lines_of m ps)) (pieces_none (drop stop text) none)
    ∙ ends_last n m (take stop text) (drop stop text) ∙ ap (λ (bs : List ℕ). line n bs ∷ []) (take-append-drop stop text)
    ∙ ap (λ (ls : List Line). line n text ∷ ls) (sym (no_lines m))

-- up to the next line feed, which is k bytes on
up_to_feed : (n m : ℕ) (text : List ℕ) (stop k : ℕ) (b : Bool) → Passed n m text stop → IsFirstByte (is_byte 10) (drop stop text) (Some k) → joins (take k (drop stop text)) ≡ b
    → (let piece = take k (drop stop text) in let later = pieces (drop (stop + k + 1) text) in
    lines_of n (pieces text) ≡ going_on n (take stop text) (cond b (joined m piece (lines_of (m + 1) later)) (line m piece ∷ lines_of (m + 1) later)))
up_to_feed n m text stop k b passed some j =
    let piece = take k (drop stop text) in
    let later = pieces (drop (stop + k + 1) text) in
    let rest : drop (k + 1) (drop stop text) ≡ drop (stop + k + 1) text = drop-drop (k + 1) stop text ∙ ap (λ (i : ℕ). drop i text) (omega arith) in
    let split : pieces (drop stop text) ≡ piece ∷ later = pieces_some (drop stop text) k some ∙ ap (λ (bs : List ℕ). piece ∷ pieces bs) rest in
    passed.first
    ∙ ap (λ (ls : List Line). going_on n (take stop text) ls)
    (ap (λ (ps : List (List ℕ)). lines_of m ps) split ∙ lines_more m piece later (some_pieces (drop (stop + k + 1) text))
    ∙ ap (λ (x : Bool). cond x (joined m piece (lines_of (m + 1) later)) (line m piece ∷ lines_of (m + 1) later)) j)

-- a line feed that ends the line
pub at_feed : (n m : ℕ) (text : List ℕ) (stop k : ℕ) → Passed n m text stop → IsFirstByte (is_byte 10) (drop stop text) (Some k) → joins (take k (drop stop text)) ≡ false
    → lines_of n (pieces text) ≡ line n (take (stop + k) text) ∷ lines_of (m + 1) (pieces (drop (stop + k + 1) text))
at_feed n m text stop k passed some j =
    up_to_feed n m text stop k false passed some j ∙ ap (λ (bs : List ℕ). line n bs ∷ lines_of (m + 1) (pieces (drop (stop + k + 1) text))) (sym (take-add stop k text))

-- a join
pub at_join : (n m : ℕ) (text : List ℕ) (stop k : ℕ) → Passed n m text stop → IsFirstByte (is_byte 10) (drop stop text) (Some k) → joins (take k (drop stop text)) ≡ true → Passed n (m + 1) text (stop + k + 1)
at_join n m text stop k passed some j =
    let piece = take k (drop stop text) in
    let at = feed_at (drop stop text) k some in
    let len = length-drop stop text in
    let later = lines_of (m + 1) (pieces (drop (stop + k + 1) text)) in
    let grown : take (stop + k + 1) text ≡ take stop text ++ (piece ++ 10 ∷ []) =
    ap (λ (i : ℕ). take i text) (omega arith) ∙ take-add stop (k + 1) text ∙ ap (λ (bs : List ℕ). take stop text ++ bs) (take_more (drop stop text) k 0 at.0 ∙ ap (λ (b : ℕ). piece ++ b ∷ []) at.1) in
    record {
      within = omega (arith, at.0, passed.within);
      few = omega (arith, passed.few);
      first = up_to_feed n m text stop k true passed some j ∙ goes_joined n m (take stop text) piece later ∙ ap (λ (bs : List ℕ). going_on n bs later) (sym grown);
    }

pub empty_lines : (n : ℕ) (text : List ℕ) → length text ≡ 0 → lines_of n (pieces text) ≡ []
empty_lines n [] e = no_lines n
empty_lines n (b ∷ bs) e = absurd (omega arith)
