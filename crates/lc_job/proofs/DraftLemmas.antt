-- What is said by lines, and by one line more.
use Rattle.std.proofs.Common.{◌≡◌, ℕ, Bool, true, false, ◌||◌, cond, List, [], ◌∷◌, ◌++◌, Option, Some, None, option_map, refl, ap, ◌∙◌}
use Rattle.std.specs.Prelude.{filter, is_some, not, find}
use Rattle.std.specs.List.{last_or, list_any}
use Rattle.std.specs.Str.{bytes_eq}
use Rattle.std.proofs.lemmas.List.{append-nil}
use Rattle.std.proofs.lemmas.List.Elements.{filter-append}
use mathlib.Core.Path.{fun_ext}
use Rattle.lc_scan.specs.Lines.{Line}
use Rattle.lc_scan.specs.Fields.{keyword_in, rest, values_in}
use Rattle.lc_job.specs.Drafts.{has, missing_in, nothing_said, taken}
use Rattle.lc_job.specs.JobLine.{entry_by, entry_of}
use Rattle.lc_job.specs.JobFile.{draft_by, draft_of, is_of, line_of, missing, stood}
use Rattle.lc_job.specs.Keys.{key_of, required, word}
use Rattle.lc_job.specs.declared.draft.Draft.{Draft}
use Rattle.lc_job.specs.declared.entry.Entry.{Entry}
use Rattle.lc_job.specs.declared.key.Key.{Key}
use Rattle.lc_job.specs.declared.key.Key.TheVariants as key
use Rattle.lc_job.proofs.KeyLemmas.{key_of-found}

-- ---- the line of a keyword

last_or-push : {X : Type 0} (o : Option X) (xs : List X) (x : X) → last_or o (xs ++ x ∷ []) ≡ Some x
last_or-push o [] x = refl
last_or-push o (y ∷ ys) x = last_or-push (Some y) ys x

last_or-some : {X : Type 0} (x : X) (xs : List X) → is_some (last_or (Some x) xs) ≡ true
last_or-some x [] = refl
last_or-some x (y ∷ ys) = last_or-some y ys

-- one passes where the last that passes is one
last_passes : {X : Type 0} (p : X → Bool) (xs : List X) → is_some (last_or None (filter p xs)) ≡ list_any p xs
last_passes p [] = refl
last_passes {X = X} p (x ∷ xs) = by_test (p x) (last_passes p xs)
  where
    by_test : (b : Bool) → is_some (last_or None (filter p xs)) ≡ list_any p xs → is_some (last_or None (cond b (x ∷ filter p xs) (filter p xs))) ≡ (b || list_any p xs)
    by_test true ih = last_or-some x (filter p xs)
    by_test false ih = ih

pub line_of-push : (ls : List Line) (l : Line) (k : Key) → line_of (ls ++ l ∷ []) k ≡ cond (is_of k l) (Some l) (line_of ls k)
line_of-push ls l k = ap (last_or None) (filter-append (is_of k) ls (l ∷ [])) ∙ by_test (is_of k l)
  where
    by_test : (b : Bool) → last_or None (filter (is_of k) ls ++ cond b (l ∷ []) []) ≡ cond b (Some l) (last_or None (filter (is_of k) ls))
    by_test true = last_or-push None (filter (is_of k) ls) l
    by_test false = ap (last_or None) (append-nil (filter (is_of k) ls))

-- ---- one line more

pub nothing : nothing_said ≡ draft_of []
unfolding draft_by
nothing = refl

by_keyword : (ls : List Line) (l : Line) (k : Key) → draft_by (λ j. cond (bytes_eq (word k) (word j)) (Some l) (line_of ls j)) ≡ taken (entry_by k (rest l.bytes) (values_in l.bytes)) (draft_by (line_of ls))
unfolding draft_by
by_keyword ls l key.Scene = refl
by_keyword ls l key.Lights = refl
by_keyword ls l key.Picture = refl
by_keyword ls l key.Bounds = refl
by_keyword ls l key.Eye = refl
by_keyword ls l key.At = refl
by_keyword ls l key.Size = refl
by_keyword ls l key.Up = refl
by_keyword ls l key.View = refl
by_keyword ls l key.Grid = refl
by_keyword ls l key.Seed = refl
by_keyword ls l key.Error = refl
by_keyword ls l key.Cut = refl
by_keyword ls l key.White = refl
by_keyword ls l key.Rule = refl

-- a line of a keyword takes the place of what was said by it
draft_of-push : (ls : List Line) (l : Line) (k : Key) → keyword_in l.bytes ≡ word k → draft_of (ls ++ l ∷ []) ≡ taken (entry_by k (rest l.bytes) (values_in l.bytes)) (draft_of ls)
draft_of-push ls l k e =
    ap draft_by (fun_ext (λ j. line_of-push ls l j ∙ ap (λ (w : List ℕ). cond (bytes_eq w (word j)) (Some l) (line_of ls j)) e)) ∙ by_keyword ls l k

pub one_line_more : (ls : List Line) (l : Line) (entry : Entry) → entry_of l.bytes ≡ Some entry → draft_of (ls ++ l ∷ []) ≡ taken entry (draft_of ls)
unfolding entry_of
one_line_more ls l entry e = by_key (key_of (keyword_in l.bytes)) refl e
  where
    by_key : (o : Option Key) → key_of (keyword_in l.bytes) ≡ o → option_map (λ (k : Key). entry_by k (rest l.bytes) (values_in l.bytes)) o ≡ Some entry → draft_of (ls ++ l ∷ []) ≡ taken entry (draft_of ls)
    by_key None own is = absurd cc
    by_key (Some k) own is =
        let same : entry_by k (rest l.bytes) (values_in l.bytes) ≡ entry = cc is in
        draft_of-push ls l k (key_of-found (keyword_in l.bytes) k own) ∙ ap (λ (x : Entry). taken x (draft_of ls)) same

-- ---- the keywords that stood

some_mapped : {X Y : Type 0} (f : X → Y) (o : Option X) → is_some (option_map f o) ≡ is_some o
some_mapped f None = refl
some_mapped f (Some x) = refl

stood_by : {Y : Type 0} (ls : List Line) (k : Key) (f : Line → Y) → is_some (option_map f (line_of ls k)) ≡ stood ls k
stood_by ls k f = some_mapped f (line_of ls k) ∙ last_passes (is_of k) ls

-- a draft has the keywords of its lines
pub has-stood : (ls : List Line) (k : Key) → has k (draft_of ls) ≡ stood ls k
unfolding draft_by
has-stood ls key.Scene = stood_by ls key.Scene _
has-stood ls key.Lights = stood_by ls key.Lights _
has-stood ls key.Picture = stood_by ls key.Picture _
has-stood ls key.Bounds = stood_by ls key.Bounds _
has-stood ls key.Eye = stood_by ls key.Eye _
has-stood ls key.At = stood_by ls key.At _
has-stood ls key.Size = stood_by ls key.Size _
has-stood ls key.Up = stood_by ls key.Up _
has-stood ls key.View = stood_by ls key.View _
has-stood ls key.Grid = stood_by ls key.Grid _
has-stood ls key.Seed = stood_by ls key.Seed _
has-stood ls key.Error = stood_by ls key.Error _
has-stood ls key.Cut = stood_by ls key.Cut _
has-stood ls key.White = stood_by ls key.White _
has-stood ls key.Rule = stood_by ls key.Rule _

pub missing_in-missing : (ls : List Line) (draft : Draft) → draft ≡ draft_of ls → missing_in draft ≡ missing ls
unfolding missing_in missing
missing_in-missing ls draft e =
    let same : (k : Key) → not (has k draft) ≡ not (stood ls k) = λ k. ap not (ap (has k) e ∙ has-stood ls k) in
    ap (λ (p : Key → Bool). find p required) (fun_ext same)
