-- Stops before anything is written, and how steps pass them on.
use Rattle.std.proofs.Common.{◌≡◌, ℕ, ◌<◌, List, [], ◌∷◌, ◌++◌, length, refl, sym, ◌∙◌, ap, subst, Option, Some, None, IfSome, IfOk, IfErr, Result, Ok, Err, rules, lit<}
use Rattle.lc_desk.specs.declared.desk.Slot.TheVariants.{Note}
use Rattle.lc_desk.specs.Causes.{Rose}
use Rattle.lc_desk.proofs.RoseLemmas.{Rose-since, Rose-until}
use Rattle.lc_desk.proofs.CallLemmas.{later_then}
use Rattle.lc_desk.specs.Desk.{DeskState, Files, Told, Later, OnlyReads}
use Rattle.lc_desk.specs.Slots.{with_slot}
use Rattle.lc_tool.specs.declared.status.Source.{Source}
use Rattle.lc_tool.specs.declared.status.Stop.{Stop}
use Rattle.lc_tool.specs.declared.status.Stop.TheVariants.{Memory, Faulty, Absent, ReadFault, Long, Refuted}
use Rattle.lc_tool.specs.Course.{Course, refuses, and_then, at_once, told}
use Rattle.lc_tool.specs.Lines.{memory_line, absent_line, long_line, read_fault_line}
use Rattle.lc_tool.specs.Outcome.{text_of, within}
use Rattle.lc_tool.specs.Status.{source_code}
use Rattle.lc_tool.specs.Noted.{Noted}
use Rattle.lc_tool.specs.Stopped.{Gave, NoReadCounted, Went, IsFaultLine, StoppedBy, HasCause, Refuses, RefusedBy}
use Rattle.lc_tool.proofs.Keeps.{counts_then, with_note, said_since}
use Rattle.lc_tool.proofs.Courses.{told_as, told_both, told_always, reads_nothing, first_none, refuses_first, refuses_next, went_then}

-- reads, and then a line on Note
pub noted_later : (line : List ℕ) (before mid now : DeskState) → OnlyReads before mid → Noted line mid now → Noted line before now
noted_later line before mid now reads noted = record {
  later = later_then before mid now reads.later noted.later;
  slots = noted.slots ∙ ap (λ s. with_slot s Note now.slots.note) reads.slots;
  faults = noted.faults ∙ ap (λ f. with_note f now.faults.reads now.faults.puts.note) reads.faults;
  begins = noted.begins ∙ reads.begins;
  said = said_since line before mid now (ap (λ s. s.note) reads.slots) reads.later noted.said;
}

pub cause_since : (stop : Stop) (before mid now : DeskState) → Later before mid → NoReadCounted before mid → HasCause stop mid now → HasCause stop before now
cause_since Memory before mid now later counts h = counts_then before mid now counts h
cause_since (Faulty text) before mid now later counts h = h
cause_since Absent before mid now later counts h = Rose-since _ _ _ later.absents h
cause_since ReadFault before mid now later counts h = Rose-since _ _ _ later.reads h
cause_since Long before mid now later counts h = Rose-since _ _ _ later.longs h
cause_since Refuted before mid now later counts h = h

-- ---- one read

text_too_long : (limit : ℕ) (name bytes : List ℕ) → limit < length bytes → within limit name (Some bytes) ≡ refuses 10 (long_line limit name)
text_too_long limit name bytes h = search rules

-- a read that found no file
pub absent_stops : (limit : ℕ) (name : List ℕ) (x y z : DeskState) → OnlyReads x y → y.asked ≡ x.asked ++ name ∷ [] → Rose x.absents y.absents → Told x.held name (λ file. file ≡ None) → Noted (absent_line name) y z → z.asked ≡ y.asked → StoppedBy Absent (told (text_of limit name) x.held) x z
absent_stops limit name x y z reads asked rose found noted same = record {
  line = absent_line name;
  form = (name, refl);
  cause = Rose-until _ _ _ rose noted.later.absents;
  told = by x.held found;
  noted = noted_later _ _ _ _ reads noted;
} where
  by : (held : Option Files) → Told held name (λ file. file ≡ None) → IfSome (told (text_of limit name) held) (RefusedBy 7 (absent_line name) x z)
  by None h = tt
  by (Some files) h = record { end = ap (within limit name) h; read = same ∙ asked }

-- a read that found too much
pub long_stops : (limit : ℕ) (name : List ℕ) (x y z : DeskState) → OnlyReads x y → y.asked ≡ x.asked ++ name ∷ [] → Rose x.longs y.longs → Told x.held name (λ file. (bytes : List ℕ) × (file ≡ Some bytes) × (limit < length bytes)) → Noted (long_line limit name) y z → z.asked ≡ y.asked → StoppedBy Long (told (text_of limit name) x.held) x z
long_stops limit name x y z reads asked rose found noted same = record {
  line = long_line limit name;
  form = (name, limit, refl);
  cause = Rose-until _ _ _ rose noted.later.longs;
  told = by x.held found;
  noted = noted_later _ _ _ _ reads noted;
} where
  by : (held : Option Files) → Told held name (λ file. (bytes : List ℕ) × (file ≡ Some bytes) × (limit < length bytes)) → IfSome (told (text_of limit name) held) (RefusedBy 10 (long_line limit name) x z)
  by None h = tt
  by (Some files) h = record { end = ap (within limit name) h.1 ∙ text_too_long limit name h.0 h.2; read = same ∙ asked }

-- a read that failed
pub read_fault_stops : (limit : ℕ) (name : List ℕ) (x y z : DeskState) → OnlyReads x y → y.asked ≡ x.asked ++ name ∷ [] → Rose x.faults.reads y.faults.reads → Noted (read_fault_line name) y z → z.asked ≡ y.asked → StoppedBy ReadFault (told (text_of limit name) x.held) x z
read_fault_stops limit name x y z reads asked rose noted same = record {
  line = read_fault_line name;
  form = (name, refl);
  cause = Rose-until _ _ _ rose noted.later.reads;
  told = told_always x.held (text_of limit name) (Refuses ReadFault (read_fault_line name) x z) (λ files. record {
    reached = record { name = name; named = refl; read = (0, lit< tt, refl) };
    read = record { first = name ∷ []; rest = []; split = refl; read = same ∙ asked };
  });
  noted = noted_later _ _ _ _ reads noted;
}

-- a read that found no memory, or read all
pub short_stops : (limit : ℕ) (name : List ℕ) (x y z : DeskState) → OnlyReads x y → y.asked ≡ x.asked ++ name ∷ [] → Noted memory_line y z → z.asked ≡ y.asked → NoReadCounted x y → NoReadCounted y z → StoppedBy Memory (told (text_of limit name) x.held) x z
short_stops limit name x y z reads asked noted same first later = record {
  line = memory_line;
  form = refl;
  cause = counts_then x y z first later;
  told = told_always x.held (text_of limit name) (Refuses Memory memory_line x z) (λ files. record { first = name ∷ []; rest = []; split = refl; read = same ∙ asked });
  noted = noted_later _ _ _ _ reads noted;
}

-- ---- stops where nothing is read

-- no memory
pub memory_stops : {A : Type 0} (course : Files → Course A) (held : Option Files) (x y : DeskState) → Noted memory_line x y → y.asked ≡ x.asked → NoReadCounted x y → StoppedBy Memory (told course held) x y
memory_stops course held x y noted same counts = record {
  line = memory_line;
  form = refl;
  cause = counts;
  told = told_always held course (Refuses Memory memory_line x y) (λ files. first_none (course files).reads x y same);
  noted = noted;
}

-- a refusal of a text
pub text_stops : {A : Type 0} (text : Source) (line : List ℕ) (course : Files → Course A) (held : Option Files) (x y : DeskState) → IsFaultLine text line → ((files : Files) → course files ≡ at_once (refuses (source_code text) line)) → Noted line x y → y.asked ≡ x.asked → StoppedBy (Faulty text) (told course held) x y
text_stops {A} text line course held x y form is noted same = record {
  line = line;
  form = form;
  cause = tt;
  told = told_always held course (Refuses (Faulty text) line x y) (λ files. subst (Refuses (Faulty text) line x y) (sym (is files)) refusal);
  noted = noted;
} where
  refusal : RefusedBy {A = A} (source_code text) line x y (at_once (refuses (source_code text) line))
  refusal = record { end = refl; read = same ∙ reads_nothing x }

-- ---- steps

-- a first step that stopped
pub stopped_first : {A B : Type 0} (stop : Stop) (step : Files → Course A) (next : Files → A → Course B) (held : Option Files) (x y : DeskState) → StoppedBy stop (told step held) x y → StoppedBy stop (told (λ files. and_then (step files) (next files)) held) x y
stopped_first stop step next held x y stopped = record {
  line = stopped.line;
  form = stopped.form;
  cause = stopped.cause;
  told = told_as held step (λ files. and_then (step files) (next files)) (Refuses stop stopped.line x y) (Refuses stop stopped.line x y) (λ files. refuses_first stop stopped.line x y (step files) (next files)) stopped.told;
  noted = stopped.noted;
}

-- a first step that went well, and a later step that stopped
pub stopped_then : {A B : Type 0} (stop : Stop) (step : Files → Course A) (next : Files → A → Course B) (a : A) (x y z : DeskState) → Went (told step x.held) a x y → StoppedBy stop (told (λ files. next files a) y.held) y z → StoppedBy stop (told (λ files. and_then (step files) (next files)) x.held) x z
stopped_then stop step next a x y z first stopped =
    let told_now : IfSome (told (λ files. next files a) x.held) (Refuses stop stopped.line y z) = subst (λ held. IfSome (told (λ files. next files a) held) (Refuses stop stopped.line y z)) first.reads.later.held stopped.told in
    record {
      line = stopped.line;
      form = stopped.form;
      cause = cause_since stop x y z first.reads.later first.counts stopped.cause;
      told = told_both x.held step (λ files. next files a) (λ files. and_then (step files) (next files)) (Gave a x y) (Refuses stop stopped.line y z) (Refuses stop stopped.line x z)
          (λ files p h. refuses_next stop stopped.line x y z (step files) (next files) a p h) first.told told_now;
      noted = noted_later _ _ _ _ first.reads stopped.noted;
    }

-- ---- a later step, by its result

pub went_after : {A B : Type 0} (result : Result B Stop) (step : Files → Course A) (next : Files → A → Course B) (a : A) (x y z : DeskState) → Went (told step x.held) a x y → IfOk result (λ b. Went (told (λ files. next files a) y.held) b y z) → IfOk result (λ b. Went (told (λ files. and_then (step files) (next files)) x.held) b x z)
went_after (Ok b) step next a x y z first h = went_then step next a b x y z first h
went_after (Err stop) step next a x y z first h = tt

pub stopped_after : {A B : Type 0} (result : Result B Stop) (step : Files → Course A) (next : Files → A → Course B) (a : A) (x y z : DeskState) → Went (told step x.held) a x y → IfErr result (λ stop. StoppedBy stop (told (λ files. next files a) y.held) y z) → IfErr result (λ stop. StoppedBy stop (told (λ files. and_then (step files) (next files)) x.held) x z)
stopped_after (Ok b) step next a x y z first h = tt
stopped_after (Err stop) step next a x y z first h = stopped_then stop step next a x y z first h
