-- The first thing that is wrong with a text.
use Rattle.std.proofs.Common.{◌≡◌, ℕ, List, [], ◌∷◌, Option, Some, None, option_map, refl, sym, ap, ◌∙◌}
use Rattle.lc_num.specs.Faults.{Fault}
use Rattle.lc_scan.specs.LineTests.{first_kind}
use Rattle.lc_scan.specs.Spoken.{spoken}
use Rattle.lc_scan.proofs.LineTestLemmas.{cons_found, cons_passed}
use Rattle.lc_job.specs.Drafts.{made, missing_in}
use Rattle.lc_job.specs.Jobs.{job_tests}
use Rattle.lc_job.specs.JobFile.{draft_of, fault_in, first_stop, kind_in, missing}
use Rattle.lc_job.specs.FaultKinds.{kind_number}
use Rattle.lc_job.specs.Stops.{IsFault, IsMissing, IsOfLine}
use Rattle.lc_job.specs.declared.draft.Draft.{Draft}
use Rattle.lc_job.specs.declared.job.Job.{Job}
use Rattle.lc_job.specs.declared.key.Key.{Key}
use Rattle.lc_job.specs.declared.fault_kind.FaultKind.{FaultKind}
use Rattle.lc_job.specs.declared.stop.JobStop.{JobStop}
use Rattle.lc_job.specs.declared.stop.JobStop.TheVariants as stop
use Rattle.lc_job.proofs.DraftLemmas.{missing_in-missing}

abbrev by_line : Option Fault → Option JobStop
by_line fault = option_map (λ (f : Fault). stop.Fault f.line f.kind) fault

abbrev by_whole : Option FaultKind → Option JobStop
by_whole kind = option_map (λ (k : FaultKind). stop.Fault 0 (kind_number k)) kind

-- a faulty line comes first
pub line_first : (text : List ℕ) (s : JobStop) → IsOfLine s (fault_in text) → IsFault s (first_stop text) × IsMissing s (first_stop text)
unfolding first_stop
line_first text stop.Memory h = (tt, tt)
line_first text (stop.Fault line kind) h = (cons_found (by_line (fault_in text)) _ (stop.Fault line kind) (ap by_line h), tt)
line_first text (stop.Missing k) h = absurd h

-- then a missing keyword
pub missing_first : (text : List ℕ) (draft : Draft) (k : Key) → fault_in text ≡ None → draft ≡ draft_of (spoken text) → missing_in draft ≡ Some k → first_stop text ≡ Some (stop.Missing k)
unfolding first_stop
missing_first text draft k good d m =
    cons_passed (by_line (fault_in text)) _ (ap by_line good) ∙ cons_found (option_map stop.Missing (missing (spoken text))) _ (stop.Missing k) (ap (option_map stop.Missing) (sym (missing_in-missing (spoken text) draft d) ∙ m))

-- then the tests of the whole
pub whole_last : (text : List ℕ) (draft : Draft) (job : Job) (o : Option FaultKind) → fault_in text ≡ None → draft ≡ draft_of (spoken text) → missing_in draft ≡ None → job ≡ made draft → first_kind (job_tests job) ≡ o → first_stop text ≡ by_whole o
unfolding first_stop
whole_last text draft job o good d m j e =
    let own : kind_in text ≡ o = ap (λ (x : Job). first_kind (job_tests x)) (sym (j ∙ ap made d)) ∙ e in
    cons_passed (by_line (fault_in text)) _ (ap by_line good) ∙ cons_passed (option_map stop.Missing (missing (spoken text))) _ (ap (option_map stop.Missing) (sym (missing_in-missing (spoken text) draft d) ∙ m))
    ∙ alone (by_whole (kind_in text)) ∙ ap by_whole own
  where
    alone : (s : Option JobStop) → first_kind (s ∷ []) ≡ s
    alone None = refl
    alone (Some own) = refl
