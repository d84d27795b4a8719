-- A reader's progress through the lines of a text.
use Rattle.std.proofs.Common.{◌≡◌, ℕ, Bool, List, [], ◌∷◌, ◌++◌, Option, Some, None, option_map, sym, ap, ◌∙◌, subst}
use mathlib.Core.Path.{fun_ext}
use Rattle.lc_scan.specs.Lines.{Line, lines}
use Rattle.lc_scan.specs.Spoken.{spoken, spoken_in}
use Rattle.lc_scan.proofs.ReaderLemmas as reader
use Rattle.lc_job.specs.Drafts.{has, nothing_said, taken}
use Rattle.lc_job.specs.JobLine.{entry_of, kind_of}
use Rattle.lc_job.specs.JobFile.{draft_of, fault_in, fault_of}
use Rattle.lc_job.specs.FaultKinds.{kind_number}
use Rattle.lc_job.specs.Stops.{IsLineStop, IsOfLine, stop_at}
use Rattle.lc_job.specs.declared.draft.Draft.{Draft}
use Rattle.lc_job.specs.declared.entry.Entry.{Entry}
use Rattle.lc_job.specs.declared.key.Key.{Key}
use Rattle.lc_job.specs.declared.fault_kind.FaultKind.{FaultKind}
use Rattle.lc_job.specs.declared.stop.LineStop.{LineStop}
use Rattle.lc_job.specs.declared.stop.LineStop.TheVariants as line_stop
use Rattle.lc_job.proofs.DraftLemmas.{has-stood, nothing, one_line_more}

-- the lines seen, and what they and the rest say of the text
pub record Reading (text : List ℕ) (left : List Line) (draft : Draft) : Type 0 where
  pub seen : List Line
  pub progress : reader.Progress fault_of text seen (spoken_in left)
  pub draft_is : draft ≡ draft_of seen

pub start : (text : List ℕ) (left : List Line) (draft : Draft) → left ≡ lines text → draft ≡ nothing_said → Reading text left draft
start text left draft e d = record {
  seen = [];
  progress = subst (λ (ls : List Line). reader.Progress fault_of text [] (spoken_in ls)) (sym e) (reader.start fault_of text);
  draft_is = d ∙ nothing;
}

-- the judge of a line asks for the keywords that the draft has
judged : (seen : List Line) (l : Line) (draft : Draft) (o : Option FaultKind) → draft ≡ draft_of seen → kind_of (λ k. has k draft) l.bytes ≡ o → fault_of seen l ≡ option_map kind_number o
judged seen l draft o d e =
    let same : (k : Key) → has k draft ≡ has k (draft_of seen) = λ k. ap (has k) d in
    ap (option_map kind_number) (ap (λ (s : Key → Bool). kind_of s l.bytes) (sym (fun_ext (λ k. same k ∙ has-stood seen k))) ∙ e)

pub takes : (text : List ℕ) (left later : List Line) (l : Line) (draft more : Draft) (entry : Entry) → spoken_in left ≡ l ∷ spoken_in later → kind_of (λ k. has k draft) l.bytes ≡ None → entry_of l.bytes ≡ Some entry → more ≡ taken entry draft
    → Reading text left draft → Reading text later more
takes text left later l draft more entry e k says m p = record {
  seen = p.seen ++ l ∷ [];
  progress = reader.takes fault_of text p.seen (spoken_in left) (spoken_in later) l e (judged p.seen l draft None p.draft_is k) p.progress;
  draft_is = m ∙ ap (taken entry) p.draft_is ∙ sym (one_line_more p.seen l entry says);
}

-- a faulty line is the text's first
pub stops : (text : List ℕ) (left later : List Line) (l : Line) (draft : Draft) (stop : LineStop) → spoken_in left ≡ l ∷ spoken_in later → IsLineStop stop (kind_of (λ k. has k draft) l.bytes) → Reading text left draft → IsOfLine (stop_at l.number stop) (fault_in text)
unfolding fault_in
stops text left later l draft line_stop.Memory e k p = tt
stops text left later l draft (line_stop.Fault kind) e k p =
    reader.stops fault_of text p.seen (spoken_in left) (spoken_in later) l (kind_number kind) e (judged p.seen l draft (Some kind) p.draft_is k) p.progress

pub ends : (text : List ℕ) (left : List Line) (draft : Draft) → spoken_in left ≡ [] → Reading text left draft → (fault_in text ≡ None) × (draft ≡ draft_of (spoken text))
unfolding fault_in
ends text left draft e p =
    let both = reader.ends fault_of text p.seen (spoken_in left) e p.progress in (both.0, p.draft_is ∙ ap draft_of (sym both.1))
