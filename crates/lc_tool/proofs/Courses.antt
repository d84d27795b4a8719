-- Steps of a course, one after another.
use Rattle.std.proofs.Common.{◌≡◌, ℕ, List, [], ◌++◌, refl, sym, ◌∙◌, ap, subst, append_assoc, append-nil, Option, Some, None, IfSome, Result, Ok, Err, Contains}
use Rattle.std.proofs.lemmas.List.Elements.{Contains-append_left, Contains-append_right}
use Rattle.lc_desk.specs.Desk.{DeskState, Files}
use Rattle.lc_tool.specs.declared.status.Stop.{Stop}
use Rattle.lc_tool.specs.declared.status.Stop.TheVariants.{Memory, Faulty, Absent, ReadFault, Long, Refuted}
use Rattle.lc_tool.specs.Course.{Course, Refusal, goes_on, and_then, at_once, refuses, told}
use Rattle.lc_tool.specs.Status.{stop_code}
use Rattle.lc_tool.specs.Stopped.{Reads, ReadsFirst, Gave, Went, RefusedBy, Refuses}
use Rattle.lc_tool.proofs.Keeps.{counts_none, counts_then, reads_none, reads_then}

-- ---- what is told of the files

-- in another form
pub told_as : {A B : Type 0} (held : Option Files) (f : Files → Course A) (g : Files → Course B) (P : Course A → Type 0) (Q : Course B → Type 0) → ((files : Files) → P (f files) → Q (g files)) → IfSome (told f held) P → IfSome (told g held) Q
told_as None f g P Q h p = tt
told_as (Some files) f g P Q h p = h files p

pub told_both : {A B C : Type 0} (held : Option Files) (f : Files → Course A) (g : Files → Course B) (k : Files → Course C) (P : Course A → Type 0) (Q : Course B → Type 0) (R : Course C → Type 0) → ((files : Files) → P (f files) → Q (g files) → R (k files)) → IfSome (told f held) P → IfSome (told g held) Q → IfSome (told k held) R
told_both None f g k P Q R h p q = tt
told_both (Some files) f g k P Q R h p q = h files p q

pub told_always : {A : Type 0} (held : Option Files) (f : Files → Course A) (P : Course A → Type 0) → ((files : Files) → P (f files)) → IfSome (told f held) P
told_always None f P h = tt
told_always (Some files) f P h = h files

-- what is said of a course that needs no files is said where a desk tells its files
pub less_told : {A : Type 0} (course : Course A) (held : Option Files) (P : Course A → Type 0) → P course → IfSome (told (λ files. course) held) P
less_told course None P p = tt
less_told course (Some files) P p = p

-- ---- what is read

-- nothing is read
pub reads_nothing : (d : DeskState) → Reads [] d d
reads_nothing d = sym (append-nil d.asked)

-- two lists of names, one after another
pub reads_more : (a b : List (List ℕ)) (x y z : DeskState) → Reads a x y → Reads b y z → Reads (a ++ b) x z
reads_more a b x y z xy yz = yz ∙ ap (λ l. l ++ b) xy ∙ append_assoc x.asked a b

-- more names would have come
pub first_before : (a b : List (List ℕ)) (x y : DeskState) → ReadsFirst a x y → ReadsFirst (a ++ b) x y
first_before a b x y h = record { first = h.first; rest = h.rest ++ b; split = ap (λ l. l ++ b) h.split ∙ append_assoc h.first h.rest b; read = h.read }

-- names had been read before
pub first_after : (a b : List (List ℕ)) (x y z : DeskState) → Reads a x y → ReadsFirst b y z → ReadsFirst (a ++ b) x z
first_after a b x y z xy h = record {
  first = a ++ h.first;
  rest = h.rest;
  split = ap (λ l. a ++ l) h.split ∙ sym (append_assoc a h.first h.rest);
  read = reads_more a h.first x y z xy h.read;
}

-- nothing more is asked
pub reads_same : (a : List (List ℕ)) (x y z : DeskState) → Reads a x y → z.asked ≡ y.asked → Reads a x z
reads_same a x y z xy same = same ∙ xy

pub first_none : (a : List (List ℕ)) (x y : DeskState) → y.asked ≡ x.asked → ReadsFirst a x y
first_none a x y same = record { first = []; rest = a; split = refl; read = same ∙ reads_nothing x }

-- ---- two steps

-- a first step that went well
pub went_on : {A B : Type 0} (step : Course A) (next : A → Course B) (a : A) → step.end ≡ Ok a → and_then step next ≡ record { reads = step.reads ++ (next a).reads; end = (next a).end }
went_on step next a e = ap (λ end. goes_on step.reads end next) e

-- a first step that was refused
pub refused : {A B : Type 0} (step : Course A) (next : A → Course B) (r : Refusal) → step.end ≡ Err r → and_then step next ≡ record { reads = step.reads; end = Err r }
refused step next r e = ap (λ end. goes_on step.reads end next) e

-- a first step gave its value, and the next gave its own
pub gave_then : {A B : Type 0} (step : Course A) (next : A → Course B) (a : A) (b : B) (x y z : DeskState) → Gave a x y step → Gave b y z (next a) → Gave b x z (and_then step next)
gave_then step next a b x y z p q =
    let whole : Gave b x z (record { reads = step.reads ++ (next a).reads; end = (next a).end }) = record { end = q.end; read = reads_more step.reads (next a).reads x y z p.read q.read } in
    subst (Gave b x z) (sym (went_on step next a p.end)) whole

-- a value at once
pub gave_once : {A : Type 0} (a : A) (x : DeskState) → Gave a x x (at_once (Ok a))
gave_once a x = record { end = refl; read = reads_nothing x }

-- a first part of the first step's reads is one of the whole's
first_kept : {A B : Type 0} (reads : List (List ℕ)) (end : Result A Refusal) (next : A → Course B) (x y : DeskState) → ReadsFirst reads x y → ReadsFirst (goes_on reads end next).reads x y
first_kept reads (Ok a) next x y h = first_before reads (next a).reads x y h
first_kept reads (Err r) next x y h = h

reads_kept : {A B : Type 0} (reads : List (List ℕ)) (end : Result A Refusal) (next : A → Course B) (name : List ℕ) → Contains reads name → Contains (goes_on reads end next).reads name
reads_kept reads (Ok a) next name c = Contains-append_left reads (next a).reads name c
reads_kept reads (Err r) next name c = c

refused_first : {A B : Type 0} (status : ℕ) (line : List ℕ) (x y : DeskState) (step : Course A) (next : A → Course B) → RefusedBy status line x y step → RefusedBy status line x y (and_then step next)
refused_first {A} {B} status line x y step next h =
    let whole : RefusedBy {A = B} status line x y (record { reads = step.reads; end = refuses status line }) = record { end = refl; read = h.read } in
    subst (RefusedBy status line x y) (sym (refused step next (record { status = status; line = line }) h.end)) whole

-- what a first step refuses, the whole refuses
pub refuses_first : {A B : Type 0} (stop : Stop) (line : List ℕ) (x y : DeskState) (step : Course A) (next : A → Course B) → Refuses stop line x y step → Refuses stop line x y (and_then step next)
refuses_first Memory line x y step next h = first_kept step.reads step.end next x y h
refuses_first (Faulty text) line x y step next h = refused_first (stop_code (Faulty text)) line x y step next h
refuses_first Absent line x y step next h = refused_first 7 line x y step next h
refuses_first ReadFault line x y step next h = record {
  reached = record { name = h.reached.name; named = h.reached.named; read = reads_kept step.reads step.end next h.reached.name h.reached.read };
  read = first_kept step.reads step.end next x y h.read;
}
refuses_first Long line x y step next h = refused_first 10 line x y step next h
refuses_first Refuted line x y step next h = refused_first 11 line x y step next h

-- what a later step refuses, the whole refuses
pub refuses_next : {A B : Type 0} (stop : Stop) (line : List ℕ) (x y z : DeskState) (step : Course A) (next : A → Course B) (a : A) → Gave a x y step → Refuses stop line y z (next a) → Refuses stop line x z (and_then step next)
refuses_next {A} {B} stop line x y z step next a p h = subst (Refuses stop line x z) (sym (went_on step next a p.end)) (later stop h) where
  by : (status : ℕ) → RefusedBy status line y z (next a) → RefusedBy status line x z (record { reads = step.reads ++ (next a).reads; end = (next a).end })
  by status h = record { end = h.end; read = reads_more step.reads (next a).reads x y z p.read h.read }

  later : (s : Stop) → Refuses s line y z (next a) → Refuses s line x z (record { reads = step.reads ++ (next a).reads; end = (next a).end })
  later Memory h = first_after step.reads (next a).reads x y z p.read h
  later (Faulty text) h = by (stop_code (Faulty text)) h
  later Absent h = by 7 h
  later ReadFault h = record {
    reached = record { name = h.reached.name; named = h.reached.named; read = Contains-append_right step.reads (next a).reads h.reached.name h.reached.read };
    read = first_after step.reads (next a).reads x y z p.read h.read;
  }
  later Long h = by 10 h
  later Refuted h = by 11 h

-- ---- two steps over a desk

-- a first step went well, and then the next
pub went_then : {A B : Type 0} (step : Files → Course A) (next : Files → A → Course B) (a : A) (b : B) (x y z : DeskState) → Went (told step x.held) a x y → Went (told (λ files. next files a) y.held) b y z → Went (told (λ files. and_then (step files) (next files)) x.held) b x z
went_then {A} {B} step next a b x y z first later =
    let told_now : IfSome (told (λ files. next files a) x.held) (Gave b y z) = subst (λ held. IfSome (told (λ files. next files a) held) (Gave b y z)) first.reads.later.held later.told in
    record {
      reads = reads_then x y z first.reads later.reads;
      counts = counts_then x y z first.counts later.counts;
      told = told_both x.held step (λ files. next files a) (λ files. and_then (step files) (next files)) (Gave a x y) (Gave b y z) (Gave b x z)
          (λ files p q. gave_then (step files) (next files) a b x y z p q) first.told told_now;
    }

-- a step that gives its value at once
pub went_once : {A : Type 0} (course : Files → Course A) (a : A) (held : Option Files) (x : DeskState) → ((files : Files) → course files ≡ at_once (Ok a)) → Went (told course held) a x x
went_once course a held x is = record {
  reads = reads_none x;
  counts = counts_none x;
  told = told_always held course (Gave a x x) (λ files. subst (Gave a x x) (sym (is files)) (gave_once a x));
}

-- a first step went well, and the next gives its value at once
pub went_last : {A B : Type 0} (step : Files → Course A) (next : Files → A → Course B) (a : A) (b : B) (x y : DeskState) → Went (told step x.held) a x y → ((files : Files) → next files a ≡ at_once (Ok b)) → Went (told (λ files. and_then (step files) (next files)) x.held) b x y
went_last step next a b x y first is = went_then step next a b x y y first (went_once (λ files. next files a) b y.held y is)
