-- Libraries, read one after another.
use Rattle.std.proofs.Common.{◌≡◌, ℕ, ◌+◌, ◌<◌, ◌≤◌, List, [], ◌∷◌, ◌++◌, length, take, drop, map, get_or, refl, sym, ◌∙◌, ap, subst, append_assoc, Option, Result, Ok, Err}
use Rattle.std.proofs.lemmas.List.{drop_more, map-append, take_all, take-append-drop, take_more}
use Rattle.lc_desk.specs.Desk.{DeskState, Files}
use Rattle.lc_mtl.specs.declared.material.Material.{Material}
use Rattle.lc_tool.specs.declared.status.Stop.{Stop}
use Rattle.lc_tool.specs.Course.{Course, Refusal, and_then, goes_on, told}
use Rattle.lc_tool.specs.Outcome.{beside, library_of, libraries_of}
use Rattle.lc_tool.specs.Stopped.{Gave, Went, StoppedBy, Refuses}
use Rattle.lc_tool.proofs.Courses.{told_as, went_then, went_last, went_once}
use Rattle.lc_tool.proofs.Stopping.{stopped_first, stopped_then}

-- ---- courses that are equal

pub went_as : {A : Type 0} (f g : Files → Course A) (a : A) (held : Option Files) (x y : DeskState) → ((files : Files) → f files ≡ g files) → Went (told f held) a x y → Went (told g held) a x y
went_as f g a held x y e h = record {
  reads = h.reads;
  counts = h.counts;
  told = told_as held f g (Gave a x y) (Gave a x y) (λ files p. subst (Gave a x y) (e files) p) h.told;
}

pub stopped_as : {A : Type 0} (stop : Stop) (f g : Files → Course A) (held : Option Files) (x y : DeskState) → ((files : Files) → f files ≡ g files) → StoppedBy stop (told f held) x y → StoppedBy stop (told g held) x y
stopped_as stop f g held x y e h = record {
  line = h.line;
  form = h.form;
  cause = h.cause;
  told = told_as held f g (Refuses stop h.line x y) (Refuses stop h.line x y) (λ files p. subst (Refuses stop h.line x y) (e files) p) h.told;
  noted = h.noted;
}

-- ---- steps in another order

goes_as : {A B : Type 0} (reads : List (List ℕ)) (end : Result A Refusal) (f g : A → Course B) → ((a : A) → f a ≡ g a) → goes_on reads end f ≡ goes_on reads end g
goes_as {A} {B} reads (Ok a) f g e = ap (λ (c : Course B). record { reads = reads ++ c.reads; end = c.end }) (e a)
goes_as reads (Err r) f g e = refl

and_then_as : {A B : Type 0} (step : Course A) (f g : A → Course B) → ((a : A) → f a ≡ g a) → and_then step f ≡ and_then step g
and_then_as step f g e = goes_as step.reads step.end f g e

-- what was read before comes first
goes_after : {A B : Type 0} (more reads : List (List ℕ)) (end : Result A Refusal) (next : A → Course B) → goes_on (more ++ reads) end next ≡ record { reads = more ++ (goes_on reads end next).reads; end = (goes_on reads end next).end }
goes_after {A} {B} more reads (Ok a) next =
    let whole : List (List ℕ) → Course B = λ l. record { reads = l; end = (next a).end } in
    ap whole (append_assoc more reads (next a).reads)
goes_after more reads (Err r) next = refl

goes_twice : {A B C : Type 0} (reads : List (List ℕ)) (end : Result A Refusal) (f : A → Course B) (g : B → Course C) → and_then (goes_on reads end f) g ≡ goes_on reads end (λ a. and_then (f a) g)
goes_twice reads (Ok a) f g = goes_after reads (f a).reads (f a).end g
goes_twice reads (Err r) f g = refl

-- steps, however they are grouped
pub and_then_twice : {A B C : Type 0} (step : Course A) (f : A → Course B) (g : B → Course C) → and_then (and_then step f) g ≡ and_then step (λ a. and_then (f a) g)
and_then_twice step f g = goes_twice step.reads step.end f g

-- ---- libraries

-- two lists of libraries, one after another
pub libraries_of-append : (a b : List (List ℕ)) (before : List Material) (files : Files) → and_then (libraries_of a before files) (λ items. libraries_of b items files) ≡ libraries_of (a ++ b) before files
unfolding libraries_of
libraries_of-append [] b before files = refl
libraries_of-append (name ∷ a) b before files =
    and_then_twice (library_of before name files) (λ items. libraries_of a items files) (λ items. libraries_of b items files)
    ∙ and_then_as (library_of before name files) (λ items. and_then (libraries_of a items files) (λ later. libraries_of b later files)) (λ items. libraries_of (a ++ b) items files) (λ items. libraries_of-append a b items files)

-- no library
pub libraries_none : (before : List Material) (held : Option Files) (x : DeskState) → Went (told (libraries_of [] before) held) before x x
unfolding libraries_of
libraries_none before held x = went_once (libraries_of [] before) before held x (λ files. refl)

-- one library
one_library : (name : List ℕ) (before after : List Material) (x y : DeskState) → Went (told (library_of before name) x.held) after x y → Went (told (libraries_of (name ∷ []) before) x.held) after x y
unfolding libraries_of
one_library name before after x y h = went_last (library_of before name) (λ files items. libraries_of [] items files) after after x y h (λ files. refl)

-- one library more
pub libraries_more : (names : List (List ℕ)) (name : List ℕ) (before mid after : List Material) (x y z : DeskState) → Went (told (libraries_of names before) x.held) mid x y → Went (told (library_of mid name) y.held) after y z → Went (told (libraries_of (names ++ name ∷ []) before) x.held) after x z
libraries_more names name before mid after x y z first later =
    went_as (λ files. and_then (libraries_of names before files) (λ items. libraries_of (name ∷ []) items files)) (libraries_of (names ++ name ∷ []) before) after x.held x z
    (λ files. libraries_of-append names (name ∷ []) before files)
    (went_then (libraries_of names before) (λ files items. libraries_of (name ∷ []) items files) mid after x y z first (one_library name mid after y z later))

stops_here : (stop : Stop) (name : List ℕ) (later : List (List ℕ)) (before : List Material) (x y : DeskState) → StoppedBy stop (told (library_of before name) x.held) x y → StoppedBy stop (told (libraries_of (name ∷ later) before) x.held) x y
unfolding libraries_of
stops_here stop name later before x y h = stopped_first stop (library_of before name) (λ files items. libraries_of later items files) x.held x y h

-- a library that stopped, among others
pub libraries_stop : (stop : Stop) (names : List (List ℕ)) (name : List ℕ) (later : List (List ℕ)) (before mid : List Material) (x y z : DeskState) → Went (told (libraries_of names before) x.held) mid x y → StoppedBy stop (told (library_of mid name) y.held) y z → StoppedBy stop (told (libraries_of (names ++ name ∷ later) before) x.held) x z
libraries_stop stop names name later before mid x y z first stopped =
    stopped_as stop (λ files. and_then (libraries_of names before files) (λ items. libraries_of (name ∷ later) items files)) (libraries_of (names ++ name ∷ later) before) x.held x z
    (λ files. libraries_of-append names (name ∷ later) before files)
    (stopped_then stop (libraries_of names before) (λ files items. libraries_of (name ∷ later) items files) mid x y z first (stops_here stop name later mid y z stopped))

-- ---- the libraries of a scene

-- the first libraries of a scene were read
abbrev pub ReadSome : List ℕ → List (List ℕ) → ℕ → List Material → DeskState → DeskState → Type 0
ReadSome scene libraries count items x y = Went (told (libraries_of (map (beside scene) (take count libraries)) []) x.held) items x y

pub read_none : (scene : List ℕ) (libraries : List (List ℕ)) (x : DeskState) → ReadSome scene libraries 0 [] x x
read_none scene libraries x = libraries_none [] x.held x

pub read_one_more : (scene : List ℕ) (libraries : List (List ℕ)) (count : ℕ) (name : List ℕ) (mid after : List Material) (x y z : DeskState) → count < length libraries → name ≡ get_or libraries count name → ReadSome scene libraries count mid x y
    → Went (told (library_of mid (beside scene name)) y.held) after y z → ReadSome scene libraries (count + 1) after x z
read_one_more scene libraries count name mid after x y z fits is first later =
    let names : map (beside scene) (take count libraries) ++ beside scene name ∷ [] ≡ map (beside scene) (take (count + 1) libraries) =
    ap (λ n. map (beside scene) (take count libraries) ++ beside scene n ∷ []) is
    ∙ sym (ap (map (beside scene)) (take_more libraries count name fits) ∙ map-append (beside scene) (take count libraries) (get_or libraries count name ∷ [])) in
    subst (λ names. Went (told (libraries_of names []) x.held) after x z) names
    (libraries_more (map (beside scene) (take count libraries)) (beside scene name) [] mid after x y z first later)

pub read_all : (scene : List ℕ) (libraries : List (List ℕ)) (count : ℕ) (items : List Material) (x y : DeskState) → length libraries ≤ count → ReadSome scene libraries count items x y → Went (told (libraries_of (map (beside scene) libraries) []) x.held) items x y
read_all scene libraries count items x y all h = subst (λ names. Went (told (libraries_of (map (beside scene) names) []) x.held) items x y) (take_all count libraries all) h

pub read_stopped : (stop : Stop) (scene : List ℕ) (libraries : List (List ℕ)) (count : ℕ) (name : List ℕ) (mid : List Material) (x y z : DeskState) → count < length libraries → name ≡ get_or libraries count name → ReadSome scene libraries count mid x y
    → StoppedBy stop (told (library_of mid (beside scene name)) y.held) y z → StoppedBy stop (told (libraries_of (map (beside scene) libraries) []) x.held) x z
read_stopped stop scene libraries count name mid x y z fits is first stopped =
    let names : map (beside scene) (take count libraries) ++ beside scene name ∷ map (beside scene) (drop (count + 1) libraries) ≡ map (beside scene) libraries =
    ap (λ n. map (beside scene) (take count libraries) ++ beside scene n ∷ map (beside scene) (drop (count + 1) libraries)) is
    ∙ sym (map-append (beside scene) (take count libraries) (get_or libraries count name ∷ drop (count + 1) libraries))
    ∙ ap (λ l. map (beside scene) (take count libraries ++ l)) (sym (drop_more libraries count name fits))
    ∙ ap (map (beside scene)) (take-append-drop count libraries) in
    subst (λ names. StoppedBy stop (told (libraries_of names []) x.held) x z) names
    (libraries_stop stop (map (beside scene) (take count libraries)) (beside scene name) (map (beside scene) (drop (count + 1) libraries)) [] mid x y z first stopped)
