-- Words between blanks, and fields before a comment.
use Rattle.std.proofs.Common.{◌≡◌, ◌≢◌, ℕ, zero, suc, ◌+◌, ◌-◌, ◌<◌, ◌≤◌, Bool, true, false, cond, not, eqb, ◌&&◌, ◌||◌, List, [], ◌∷◌, ◌++◌, length, get_or, take, drop, refl, sym, ap, ◌∙◌, append_assoc, arith, inl, inr}
use Rattle.std.specs.Prelude.{filter, take_while}
use Rattle.std.specs.List.{slice_split, onto_first, position_or_len, prefix_len, before_first, after_first}
use Rattle.std.proofs.lemmas.List.{append-nil, get_or-drop, length-drop, take_all, drop_all, drop_more, drop-drop, ext_get_or, get_or-take, length-take}
use Rattle.std.proofs.lemmas.List.Splits.{slice_split-cons_yes, slice_split_none, slice_split_first}
use Rattle.std.proofs.lemmas.List.Elements.{All-from_get_or}
use Rattle.std.proofs.lemmas.List.Sums.{fails_before_first, prefix_len_stops, passes_at_first, take_while-cons, prefix_len_is, position_or_len_is}
use Rattle.std.proofs.lemmas.Bool.{cases_lt, false≢true, lt-ltb, ne_eqb}
use Rattle.lc_scan.specs.Lines.{joins}
use Rattle.lc_scan.specs.Fields.{is_blank, breaks, is_joint, spaced_after, spaced, is_word, is_comment, words, fields_in, fields}

abbrev is_no_comment : List ℕ → Bool
is_no_comment word = not (is_comment word)

-- ---- the line with its joins as blanks

length-spaced_after : (before bytes : List ℕ) → length (spaced_after before bytes) ≡ length bytes
unfolding spaced_after
length-spaced_after before [] = refl
length-spaced_after before (b ∷ after) = ap suc (length-spaced_after (before ++ b ∷ []) after)

pub length-spaced : (line : List ℕ) → length (spaced line) ≡ length line
length-spaced line = length-spaced_after [] line

get_or-spaced_after : (before bytes : List ℕ) (i : ℕ) → i < length bytes
    → get_or (spaced_after before bytes) i 0 ≡ cond (is_joint (before ++ take i bytes) (get_or bytes i 0) (drop (suc i) bytes)) 32 (get_or bytes i 0)
unfolding spaced_after
get_or-spaced_after before [] i h = absurd (omega arith)
get_or-spaced_after before (b ∷ after) zero h = ap (λ (front : List ℕ). cond (is_joint front b after) 32 b) (sym (append-nil before))
get_or-spaced_after before (b ∷ after) (suc i) h =
    get_or-spaced_after (before ++ b ∷ []) after i (omega arith)
    ∙ ap (λ (front : List ℕ). cond (is_joint front (get_or after i 0) (drop (suc i) after)) 32 (get_or after i 0)) (append_assoc before (b ∷ []) (take i after))

pub get_or-spaced : (line : List ℕ) (i : ℕ) → i < length line → get_or (spaced line) i 0 ≡ cond (is_joint (take i line) (get_or line i 0) (drop (suc i) line)) 32 (get_or line i 0)
get_or-spaced line i h = get_or-spaced_after [] line i h

joint_is_blank : (x : Bool) (b : ℕ) → is_blank (cond x 32 b) ≡ false → cond x 32 b ≡ b
joint_is_blank true b h = absurd cc
joint_is_blank false b h = refl

-- a byte that is no blank is the line's own
own_byte : (line : List ℕ) (i : ℕ) → i < length line → is_blank (get_or (spaced line) i 0) ≡ false → get_or (spaced line) i 0 ≡ get_or line i 0
own_byte line i h none =
    let e = get_or-spaced line i h in
    e ∙ joint_is_blank (is_joint (take i line) (get_or line i 0) (drop (suc i) line)) (get_or line i 0) (ap is_blank (sym e) ∙ none)

-- ---- what a place of the line is

with_backslash : (x : Bool) → is_blank (cond (x || false) 32 92) ≡ x
with_backslash true = refl
with_backslash false = refl

with_feed : (x : Bool) → is_blank (cond x 32 10) ≡ x
with_feed true = refl
with_feed false = refl

at_place : (line : List ℕ) (i b : ℕ) → i < length line → get_or line i 0 ≡ b → is_blank (get_or (spaced line) i 0) ≡ is_blank (cond (is_joint (take i line) b (drop (suc i) line)) 32 b)
at_place line i b h e =
    ap is_blank (get_or-spaced line i h) ∙ ap (λ (x : ℕ). is_blank (cond (is_joint (take i line) x (drop (suc i) line)) 32 x)) e

pub backslash_at : (line after : List ℕ) (i : ℕ) → i < length line → get_or line i 0 ≡ 92 → after ≡ drop (i + 1) line → breaks after ≡ is_blank (get_or (spaced line) i 0)
backslash_at line after i h e a =
    let same : i + 1 ≡ suc i = omega arith in
    ap breaks (a ∙ ap (λ (n : ℕ). drop n line) same) ∙ sym (at_place line i 92 h e ∙ with_backslash (breaks (drop (suc i) line)))

pub feed_at : (line : List ℕ) (i : ℕ) → i < length line → get_or line i 0 ≡ 10 → joins (take i line) ≡ is_blank (get_or (spaced line) i 0)
feed_at line i h e = sym (at_place line i 10 h e ∙ with_feed (joins (take i line)))

pub other_at : (line : List ℕ) (i : ℕ) → i < length line → get_or line i 0 ≢ 92 → get_or line i 0 ≢ 10 → is_blank (get_or line i 0) ≡ is_blank (get_or (spaced line) i 0)
other_at line i h no_slash no_feed =
    let b = get_or line i 0 in
    sym (at_place line i b h refl ∙ ap (λ (x : Bool). is_blank (cond ((x && breaks (drop (suc i) line)) || (eqb b 10 && joins (take i line))) 32 b)) (ne_eqb b 92 no_slash)
    ∙ ap (λ (x : Bool). is_blank (cond (x && joins (take i line)) 32 b)) (ne_eqb b 10 no_feed))

-- ---- where blanks and words end

pub gap_ends : (bytes : List ℕ) (at end : ℕ) → at ≤ end → end ≤ length bytes → ((k : ℕ) → at ≤ k → k < end → is_blank (get_or bytes k 0) ≡ true) → (end < length bytes → is_blank (get_or bytes end 0) ≡ false) → end ≡ at + prefix_len is_blank (drop at bytes)
gap_ends bytes at end low high all stops =
    let len = length-drop at bytes in
    let same : at + (end - at) ≡ end = omega arith in
    let e = prefix_len_is is_blank (drop at bytes) (end - at) 0 (omega arith)
    (λ k lt. ap is_blank (get_or-drop at bytes k 0) ∙ all (at + k) (omega arith) (omega arith))
    (λ lt. ap is_blank (get_or-drop at bytes (end - at) 0 ∙ ap (λ (i : ℕ). get_or bytes i 0) same) ∙ stops (omega arith)) in
    omega arith

pub word_ends : (bytes : List ℕ) (at end : ℕ) → at ≤ end → end ≤ length bytes → ((k : ℕ) → at ≤ k → k < end → is_blank (get_or bytes k 0) ≡ false) → (end < length bytes → is_blank (get_or bytes end 0) ≡ true) → end ≡ at + position_or_len is_blank (drop at bytes)
word_ends bytes at end low high all stops =
    let len = length-drop at bytes in
    let same : at + (end - at) ≡ end = omega arith in
    let e = position_or_len_is is_blank (drop at bytes) (end - at) 0 (omega arith)
    (λ k lt. ap is_blank (get_or-drop at bytes k 0) ∙ all (at + k) (omega arith) (omega arith))
    (λ lt. ap is_blank (get_or-drop at bytes (end - at) 0 ∙ ap (λ (i : ℕ). get_or bytes i 0) same) ∙ stops (omega arith)) in
    omega arith

-- ---- words

words_blank : (b : ℕ) (bs : List ℕ) → is_blank b ≡ true → words (b ∷ bs) ≡ words bs
words_blank b bs h = ap (λ (ps : List (List ℕ)). filter is_word ps) (slice_split-cons_yes is_blank b bs h)

after_gap : (b : ℕ) (bs : List ℕ) (x : Bool) → is_blank b ≡ x → words (drop (prefix_len is_blank bs) bs) ≡ words bs → words (drop (cond x (1 + prefix_len is_blank bs) 0) (b ∷ bs)) ≡ words (b ∷ bs)
after_gap b bs true h ih = ap (λ (n : ℕ). words (drop n (b ∷ bs))) (one_more (prefix_len is_blank bs)) ∙ ih ∙ sym (words_blank b bs h)
  where
    one_more : (n : ℕ) → 1 + n ≡ suc n
    one_more n = omega arith
after_gap b bs false h ih = refl

words_after_gap : (bs : List ℕ) → words (drop (prefix_len is_blank bs) bs) ≡ words bs
words_after_gap [] = refl
words_after_gap (b ∷ bs) = after_gap b bs (is_blank b) refl (words_after_gap bs)

filter_word : (w : List ℕ) (ws : List (List ℕ)) → 0 < length w → filter is_word (w ∷ ws) ≡ w ∷ filter is_word ws
filter_word [] ws h = absurd (omega arith)
filter_word (b ∷ bs) ws h = ap (λ (x : Bool). cond x ((b ∷ bs) ∷ filter is_word ws) (filter is_word ws)) (lt-ltb 0 (length (b ∷ bs)) h)

words_first : (bs : List ℕ) → 0 < length (before_first is_blank bs) → words bs ≡ before_first is_blank bs ∷ words (after_first is_blank bs)
words_first bs some =
    let n = position_or_len is_blank bs in
    elim (cases_lt n (length bs)) [
      | inl lt ↦ ap (λ (ps : List (List ℕ)). filter is_word ps) (slice_split_first is_blank bs 0 lt) ∙ filter_word (before_first is_blank bs) (slice_split is_blank (after_first is_blank bs)) some
      | inr ge ↦
          let whole : before_first is_blank bs ≡ bs = take_all n bs ge in
          let none : after_first is_blank bs ≡ [] = drop_all (n + 1) bs (omega arith) in
          ap (λ (ps : List (List ℕ)). filter is_word ps) (slice_split_none is_blank bs (All-from_get_or (λ b. is_blank b ≡ false) bs 0 (λ i lt. fails_before_first is_blank bs i 0 (omega arith))))
          ∙ filter_word bs [] (omega (arith, length-take n bs)) ∙ ap (λ (w : List ℕ). w ∷ []) (sym whole)
          ∙ ap (λ (rest : List ℕ). before_first is_blank bs ∷ words rest) (sym none)
    ]

words_rest : (bs : List ℕ) → words (after_first is_blank bs) ≡ words (drop (position_or_len is_blank bs) bs)
words_rest bs =
    let n = position_or_len is_blank bs in
    elim (cases_lt n (length bs)) [
      | inl lt ↦ sym (ap words (drop_more bs n 0 lt) ∙ words_blank (get_or bs n 0) (drop (n + 1) bs) (passes_at_first is_blank bs 0 lt))
      | inr ge ↦ ap words (drop_all (n + 1) bs (omega arith) ∙ sym (drop_all n bs ge))
    ]

-- ---- the first word from a place on

-- the blanks after `at` end at `start`, and the word after them at `end`
pub record WordSpan (line : List ℕ) (at start end : ℕ) : Type 0 where
  pub start_is : start ≡ at + prefix_len is_blank (drop at (spaced line))
  pub end_is : end ≡ start + position_or_len is_blank (drop start (spaced line))

words_from_start : (line : List ℕ) (at start end : ℕ) → WordSpan line at start end → words (drop at (spaced line)) ≡ words (drop start (spaced line))
words_from_start line at start end cut =
    let n = prefix_len is_blank (drop at (spaced line)) in
    sym (words_after_gap (drop at (spaced line))) ∙ ap words (drop-drop n at (spaced line))
    ∙ ap (λ (i : ℕ). words (drop i (spaced line))) (omega (arith, cut.start_is))

-- between the two places the line has no blanks
word_stays : (line : List ℕ) (at start end : ℕ) → WordSpan line at start end → take (end - start) (drop start (spaced line)) ≡ take (end - start) (drop start line)
word_stays line at start end cut =
    let n = end - start in
    let spaces = drop start (spaced line) in
    let own = drop start line in
    let len = length-spaced line in
    let long : length spaces ≡ length own = length-drop start (spaced line) ∙ ap (λ (k : ℕ). k - start) len ∙ sym (length-drop start line) in
    ext_get_or 0 (take n spaces) (take n own) (omega (arith, length-take n spaces, length-take n own))
    (λ i lt.
    let below : i < n = omega (arith, length-take n spaces) in
    let within : start + i < length line = omega (arith, length-take n spaces, length-drop start line) in
    let none : is_blank (get_or (spaced line) (start + i) 0) ≡ false = ap is_blank (sym (get_or-drop start (spaced line) i 0)) ∙ fails_before_first is_blank spaces i 0 (omega (arith, cut.end_is)) in
    get_or-take n spaces i 0 below ∙ get_or-drop start (spaced line) i 0 ∙ own_byte line (start + i) within none
    ∙ sym (get_or-take n own i 0 below ∙ get_or-drop start line i 0))

word_is : (line : List ℕ) (at start end : ℕ) → WordSpan line at start end → before_first is_blank (drop start (spaced line)) ≡ take (end - start) (drop start line)
word_is line at start end cut =
    ap (λ (n : ℕ). take n (drop start (spaced line))) (omega (arith, cut.end_is)) ∙ word_stays line at start end cut

first_word : (line : List ℕ) (at start end : ℕ) → WordSpan line at start end → 0 < length (take (end - start) (drop start line)) → words (drop at (spaced line)) ≡ take (end - start) (drop start line) ∷ words (drop end (spaced line))
first_word line at start end cut some =
    let spaces = drop start (spaced line) in
    let word = word_is line at start end cut in
    words_from_start line at start end cut ∙ words_first spaces (omega (arith, ap length word))
    ∙ ap (λ (ws : List (List ℕ)). before_first is_blank spaces ∷ ws) (words_rest spaces ∙ ap words (drop-drop (position_or_len is_blank spaces) start (spaced line)))
    ∙ ap (λ (w : List ℕ). w ∷ words (drop (start + position_or_len is_blank spaces) (spaced line))) word
    ∙ ap (λ (n : ℕ). take (end - start) (drop start line) ∷ words (drop n (spaced line))) (sym cut.end_is)

-- no word is left
nothing_left : (line : List ℕ) (at start end : ℕ) → WordSpan line at start end → length (take (end - start) (drop start line)) ≡ 0 → drop start (spaced line) ≡ []
nothing_left line at start end cut none =
    let gap = prefix_len is_blank (drop at (spaced line)) in
    let spaces = drop start (spaced line) in
    let word = word_is line at start end cut in
    elim (cases_lt gap (length (drop at (spaced line)))) [
      | inl lt ↦
          let stops : is_blank (get_or (spaced line) start 0) ≡ false =
          ap (λ (i : ℕ). is_blank (get_or (spaced line) i 0)) cut.start_is ∙ ap is_blank (sym (get_or-drop at (spaced line) gap 0)) ∙ prefix_len_stops is_blank (drop at (spaced line)) 0 lt in
          let some : 0 < length spaces = omega (arith, cut.start_is, length-drop at (spaced line), length-drop start (spaced line)) in
          let zero_long : position_or_len is_blank spaces ≡ 0 = omega (arith, length-take (position_or_len is_blank spaces) spaces, ap length word) in
          let blank : is_blank (get_or (spaced line) start 0) ≡ true =
          ap (λ (i : ℕ). is_blank (get_or (spaced line) i 0)) (omega (arith, zero_long)) ∙ ap is_blank (sym (get_or-drop start (spaced line) (position_or_len is_blank spaces) 0)) ∙ passes_at_first is_blank spaces 0 (omega arith) in
          absurd (false≢true (sym stops ∙ blank))
      | inr ge ↦ drop_all start (spaced line) (omega (arith, cut.start_is, length-drop at (spaced line)))
    ]

-- ---- the first field from a place on

pub no_field : (line : List ℕ) (at start end : ℕ) → WordSpan line at start end → length (take (end - start) (drop start line)) ≡ 0 → fields_in (drop at (spaced line)) ≡ []
no_field line at start end cut none =
    ap (λ (ws : List (List ℕ)). take_while is_no_comment ws) (words_from_start line at start end cut ∙ ap words (nothing_left line at start end cut none))

first_by : (line : List ℕ) (at start end : ℕ) (comment : Bool) → WordSpan line at start end → 0 < length (take (end - start) (drop start line)) → is_comment (take (end - start) (drop start line)) ≡ comment
    → fields_in (drop at (spaced line)) ≡ cond (not comment) (take (end - start) (drop start line) ∷ fields_in (drop end (spaced line))) []
first_by line at start end comment cut some c =
    let word = take (end - start) (drop start line) in
    ap (λ (ws : List (List ℕ)). take_while is_no_comment ws) (first_word line at start end cut some) ∙ take_while-cons is_no_comment word (words (drop end (spaced line)))
    ∙ ap (λ (x : Bool). cond (not x) (word ∷ fields_in (drop end (spaced line))) []) c

pub first_comment : (line : List ℕ) (at start end : ℕ) → WordSpan line at start end → 0 < length (take (end - start) (drop start line)) → is_comment (take (end - start) (drop start line)) ≡ true → fields_in (drop at (spaced line)) ≡ []
first_comment line at start end cut some c = first_by line at start end true cut some c

pub first_field : (line : List ℕ) (at start end : ℕ) → WordSpan line at start end → 0 < length (take (end - start) (drop start line)) → is_comment (take (end - start) (drop start line)) ≡ false
    → fields_in (drop at (spaced line)) ≡ take (end - start) (drop start line) ∷ fields_in (drop end (spaced line))
first_field line at start end cut some c = first_by line at start end false cut some c

-- ---- how many fields there are

word_more : (b : ℕ) (x : Bool) (ps : List (List ℕ)) (n : ℕ) → length (filter is_word ps) ≤ n → length (filter is_word (cond x ([] ∷ ps) (onto_first b ps))) ≤ suc n
word_more b true ps n h = omega arith
word_more b false [] n h = omega arith
word_more b false (p ∷ ps) n h =
    omega (arith, ap (λ (ws : List (List ℕ)). length ws) (filter_word (b ∷ p) ps (omega arith)), filter_more p ps)
  where
    filter_cond : (x : Bool) (w : List ℕ) (ws : List (List ℕ)) → length ws ≤ length (cond x (w ∷ ws) ws)
    filter_cond true w ws = omega arith
    filter_cond false w ws = omega arith

    filter_more : (w : List ℕ) (ws : List (List ℕ)) → length (filter is_word ws) ≤ length (filter is_word (w ∷ ws))
    filter_more w ws = filter_cond (is_word w) w (filter is_word ws)

length-words-le : (bs : List ℕ) → length (words bs) ≤ length bs
length-words-le [] = omega arith
length-words-le (b ∷ bs) = word_more b (is_blank b) (slice_split is_blank bs) (length bs) (length-words-le bs)

length-take_while-le : (ws : List (List ℕ)) → length (take_while is_no_comment ws) ≤ length ws
length-take_while-le ws = omega (arith, length-take (prefix_len is_no_comment ws) ws)

pub length-fields-le : (line : List ℕ) → length (fields line) ≤ length line
length-fields-le line = omega (arith, length-take_while-le (words (spaced line)), length-words-le (spaced line), length-spaced line)
