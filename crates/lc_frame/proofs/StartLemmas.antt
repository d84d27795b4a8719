-- The start of a frame, and its end.
use Rattle.std.proofs.Common.{◌≡◌, ℕ, List, [], ◌∷◌, ◌++◌, flat_map, ◌∙◌, ap, subst, arith, inr}
use Rattle.lc_desk.specs.Calls.{Call, Made, begin, put}
use Rattle.lc_desk.specs.Desk.{DeskState}
use Rattle.lc_desk.specs.declared.desk.Slot.{Slot}
use Rattle.lc_desk.specs.declared.desk.Slot.TheVariants.{Picture, Bounds}
use Rattle.lc_desk.proofs.CallLemmas.{made_then}
use Rattle.lc_rated.specs.declared.answer.Answer.{Answer}
use Rattle.lc_job.specs.declared.job.Job.{Job}
use Rattle.lc_tone.specs.Tone as tone
use Rattle.lc_record.specs.Record as record_of
use Rattle.lc_frame.specs.Frames.{header_of, opening, render_calls, row_calls, summary_of}
use Rattle.lc_frame.specs.Parts.{with_more}
use Rattle.lc_frame.specs.Stops.{Broke, StoppedIn}
use Rattle.lc_frame.specs.declared.stop.FrameStop.{FrameStop}
use Rattle.lc_frame.specs.declared.stop.FrameStop.TheVariants as frame
use Rattle.lc_frame.specs.declared.summary.Summary.{Summary}
use Rattle.lc_frame.proofs.LoopLemmas.{frame_after, frame_before}
use Rattle.lc_frame.proofs.PixelLemmas.{same_summary}

-- the begin and the header of a file
abbrev pub starting : Call → Call → List Call
starting a b = a ∷ b ∷ []

-- the start of a file, by what its name and its header are
pub start-is : (slot : Slot) (name named head headed : List ℕ) → name ≡ named → head ≡ headed → starting (begin slot name) (put slot head) ≡ starting (begin slot named) (put slot headed)
start-is slot name named head headed n h = ap (λ x. starting (begin slot x) (put slot head)) n ∙ ap (λ x. starting (begin slot named) (put slot x)) h

-- the starts of both files, by what their names and headers are
module _ (job : Job) (name picture other log : List ℕ) (named : name ≡ job.picture) (pictured : picture ≡ tone.header_bytes job.camera.width job.camera.height) (called : other ≡ job.bounds) (logged : log ≡ record_of.record_header (header_of job)) where
  first_start : starting (begin Picture name) (put Picture picture) ≡ starting (begin Picture job.picture) (put Picture (tone.header_bytes job.camera.width job.camera.height))
  first_start = start-is Picture name job.picture picture _ named pictured

  second_start : starting (begin Bounds other) (put Bounds log) ≡ starting (begin Bounds job.bounds) (put Bounds (record_of.record_header (header_of job)))
  second_start = start-is Bounds other job.bounds log _ called logged

  opening-is : starting (begin Picture name) (put Picture picture) ++ starting (begin Bounds other) (put Bounds log) ≡ opening job
  opening-is =
      ap (λ l. l ++ starting (begin Bounds other) (put Bounds log)) first_start
      ∙ ap (λ l. starting (begin Picture job.picture) (put Picture (tone.header_bytes job.camera.width job.camera.height)) ++ l) second_start

  pub opening_made : (x y z : DeskState) → Made (begin Picture name ∷ put Picture picture ∷ []) x y → Made (begin Bounds other ∷ put Bounds log ∷ []) y z → Made (opening job) x z
  opening_made x y z a b = subst (λ calls. Made calls x z) opening-is (made_then (starting (begin Picture name) (put Picture picture)) (starting (begin Bounds other) (put Bounds log)) x y z a b)

  pub opening_broke_first : (stop : FrameStop) (x y : DeskState) → Broke stop (begin Picture name ∷ put Picture picture ∷ []) x y → Broke stop (opening job) x y
  opening_broke_first stop x y a = subst (λ calls. Broke stop calls x y) opening-is (frame_before stop (starting (begin Picture name) (put Picture picture)) (starting (begin Bounds other) (put Bounds log)) x y a)

  pub opening_broke_then : (stop : FrameStop) (x y z : DeskState) → Made (begin Picture name ∷ put Picture picture ∷ []) x y → Broke stop (begin Bounds other ∷ put Bounds log ∷ []) y z → Broke stop (opening job) x z
  opening_broke_then stop x y z a b = subst (λ calls. Broke stop calls x z) opening-is (frame_after stop (starting (begin Picture name) (put Picture picture)) (starting (begin Bounds other) (put Bounds log)) x y z a b)

-- a summary of these samples alone
pub fresh : (answers : List Answer) (s : Summary) → s ≡ record { samples = 0; sizes = 0; largest = 0 } → with_more answers s ≡ summary_of answers
fresh answers s none = ap (with_more answers) none ∙ same_summary _ _ _ _ _ _ (omega arith) (omega arith) (omega arith)

pub stopped_in : (stop : FrameStop) (calls : List Call) (x y : DeskState) → Broke stop calls x y → StoppedIn stop calls x y
stopped_in (frame.Write slot) calls x y h = h
stopped_in frame.Memory calls x y h = inr h

module _ (job : Job) (rows : List (List (List Answer))) where
  pub render_made : (x y z : DeskState) → Made (opening job) x y → Made (flat_map (row_calls job.white) rows) y z → Made (render_calls job rows) x z
  unfolding render_calls
  render_made x y z a b = made_then (opening job) (flat_map (row_calls job.white) rows) x y z a b

  pub stopped_open : (stop : FrameStop) (x y : DeskState) → Broke stop (opening job) x y → StoppedIn stop (render_calls job rows) x y
  unfolding render_calls
  stopped_open stop x y a = stopped_in stop (opening job ++ flat_map (row_calls job.white) rows) x y (frame_before stop (opening job) (flat_map (row_calls job.white) rows) x y a)

  pub stopped_rows : (stop : FrameStop) (x y z : DeskState) → Made (opening job) x y → Broke stop (flat_map (row_calls job.white) rows) y z → StoppedIn stop (render_calls job rows) x z
  unfolding render_calls
  stopped_rows stop x y z a b = stopped_in stop (opening job ++ flat_map (row_calls job.white) rows) x z (frame_after stop (opening job) (flat_map (row_calls job.white) rows) x y z a b)
