-- One pixel more of a row, and one row more of a picture.
use Rattle.std.proofs.Common.{◌≡◌, ℕ, ◌+◌, ◌<◌, ◌≤◌, List, [], ◌∷◌, ◌++◌, map, flat_map, refl, sym, ◌∙◌, ap, subst, arith, append-nil}
use Rattle.lc_desk.specs.Calls.{Call, Made, put}
use Rattle.lc_desk.specs.declared.desk.Slot.TheVariants.{Picture}
use Rattle.lc_desk.specs.Desk.{DeskState}
use Rattle.lc_desk.proofs.CallLemmas.{made_then}
use Rattle.lc_rated.specs.declared.answer.Answer.{Answer}
use Rattle.lc_view.specs.Samples.{flat, picture_rays, pixel_rays, row_rays}
use Rattle.lc_job.specs.declared.job.Job.{Job}
use Rattle.lc_sample.specs.Scenes.{SceneParts}
use Rattle.lc_sample.specs.Sampled.{sample_of}
use Rattle.lc_frame.specs.Frames.{answers_of, evals_of, lines_of, pixels, row_bytes, row_calls, samples}
use Rattle.lc_frame.specs.Parts.{pixel_answers, row_answers, with_more}
use Rattle.lc_frame.specs.Stops.{Broke}
use Rattle.lc_frame.specs.declared.stop.FrameStop.{FrameStop}
use Rattle.lc_frame.specs.declared.summary.Summary.{Summary}
use Rattle.lc_frame.proofs.LoopLemmas.{flat_map-append, frame_after, frame_before, items, items-all, items-map, items-more, items-split, rest_of}
use Rattle.lc_frame.proofs.PixelLemmas.{evals-append, more-append}

-- the pixels of a row are those of its columns
pub row_answers-is : (job : Job) (scene : SceneParts) (row : ℕ) → row_answers job scene row ≡ items (pixel_answers job scene row) job.camera.width
unfolding row_answers row_rays pixel_answers
row_answers-is job scene row = items-map (pixel_rays job.camera row) (map (sample_of job.cut job.permille job.rule scene)) job.camera.width

-- the rows of a picture
pub answers-is : (job : Job) (scene : SceneParts) → answers_of job scene ≡ items (row_answers job scene) job.camera.height
unfolding answers_of picture_rays row_answers
answers-is job scene = items-map (row_rays job.camera) (map (map (sample_of job.cut job.permille job.rule scene))) job.camera.height

-- ---- what steps give, one after another

module _ {A B : Type 0} (f : ℕ → A) (g : A → List B) (k : ℕ) where
  pub flat-more : flat_map g (items f (k + 1)) ≡ flat_map g (items f k) ++ g (f k)
  flat-more = ap (flat_map g) (items-more f k) ∙ flat_map-append g (items f k) (f k ∷ []) ∙ ap (λ l. flat_map g (items f k) ++ l) (append-nil (g (f k)))

  pub flat-split : (n : ℕ) → k < n → flat_map g (items f n) ≡ (flat_map g (items f k) ++ g (f k)) ++ flat_map g (rest_of (λ j. f j ∷ []) k n)
  flat-split n lt =
      let rest : List A = rest_of (λ j. f j ∷ []) k n in
      ap (flat_map g) (items-split f k n lt) ∙ flat_map-append g (items f k ++ f k ∷ []) rest
      ∙ ap (λ l. l ++ flat_map g rest) (flat_map-append g (items f k) (f k ∷ []) ∙ ap (λ l. flat_map g (items f k) ++ l) (append-nil (g (f k))))

module _ {A : Type 0} (f : ℕ → A) (calls : A → List Call) (k : ℕ) where
  pub calls_more : (x y z : DeskState) → Made (flat_map calls (items f k)) x y → Made (calls (f k)) y z → Made (flat_map calls (items f (k + 1))) x z
  calls_more x y z made step = subst (λ l. Made l x z) (sym (flat-more f calls k)) (made_then (flat_map calls (items f k)) (calls (f k)) x y z made step)

  pub calls_broke : (stop : FrameStop) (n : ℕ) (x y z : DeskState) → k < n → Made (flat_map calls (items f k)) x y → Broke stop (calls (f k)) y z → Broke stop (flat_map calls (items f n)) x z
  calls_broke stop n x y z lt made broke =
      subst (λ l. Broke stop l x z) (sym (flat-split f calls k n lt))
      (frame_before stop (flat_map calls (items f k) ++ calls (f k)) (flat_map calls (rest_of (λ j. f j ∷ []) k n)) x z
      (frame_after stop (flat_map calls (items f k)) (calls (f k)) x y z made broke))

-- the samples so far, and those of one step more
module _ {A : Type 0} (f : ℕ → A) (g : A → List Answer) (k : ℕ) where
  pub evals_then : (first before now : ℕ) → before ≡ first + evals_of (flat_map g (items f k)) → now ≡ before + evals_of (g (f k)) → now ≡ first + evals_of (flat_map g (items f (k + 1)))
  evals_then first before now so_far step =
      omega (arith, so_far, step, ap evals_of (flat-more f g k) ∙ evals-append (flat_map g (items f k)) (g (f k)))

  pub summary_then : (first before now : Summary) → before ≡ with_more (flat_map g (items f k)) first → now ≡ with_more (g (f k)) before → now ≡ with_more (flat_map g (items f (k + 1))) first
  summary_then first before now so_far step =
      step ∙ ap (with_more (g (f k))) so_far ∙ sym (more-append (flat_map g (items f k)) (g (f k)) first) ∙ ap (λ l. with_more l first) (sym (flat-more f g k))

-- at the end of the loops
pub whole_row : (job : Job) (scene : SceneParts) (row col : ℕ) → col ≤ job.camera.width → job.camera.width ≤ col → items (pixel_answers job scene row) col ≡ row_answers job scene row
whole_row job scene row col most least =
    items-all (pixel_answers job scene row) col job.camera.width most least ∙ sym (row_answers-is job scene row)

pub whole_picture : (job : Job) (scene : SceneParts) (row : ℕ) → row ≤ job.camera.height → job.camera.height ≤ row → items (row_answers job scene) row ≡ answers_of job scene
whole_picture job scene row most least =
    items-all (row_answers job scene) row job.camera.height most least ∙ sym (answers-is job scene)

-- a stop in a pixel of a row
pub row_broke : (job : Job) (scene : SceneParts) (row col : ℕ) (stop : FrameStop) (x y z : DeskState) → col < job.camera.width → Made (flat_map lines_of (items (pixel_answers job scene row) col)) x y → Broke stop (lines_of (pixel_answers job scene row col)) y z → Broke stop (flat_map lines_of (row_answers job scene row)) x z
row_broke job scene row col stop x y z lt made broke =
    subst (λ l. Broke stop (flat_map lines_of l) x z) (sym (row_answers-is job scene row))
    (calls_broke (pixel_answers job scene row) lines_of col stop job.camera.width x y z lt made broke)

-- a stop in a row of a picture
pub picture_broke : (job : Job) (scene : SceneParts) (row : ℕ) (stop : FrameStop) (x y z : DeskState) → row < job.camera.height → Made (flat_map (row_calls job.white) (items (row_answers job scene) row)) x y → Broke stop (row_calls job.white (row_answers job scene row)) y z → Broke stop (flat_map (row_calls job.white) (answers_of job scene)) x z
picture_broke job scene row stop x y z lt made broke =
    subst (λ l. Broke stop (flat_map (row_calls job.white) l) x z) (sym (answers-is job scene))
    (calls_broke (row_answers job scene) (row_calls job.white) row stop job.camera.height x y z lt made broke)

-- the samples of a picture are those of its rows
pub samples-flat : (rows : List (List (List Answer))) → flat_map flat rows ≡ samples rows
samples-flat [] = refl
samples-flat (row ∷ rows) = ap (λ l. flat row ++ l) (samples-flat rows) ∙ sym (flat_map-append (λ pixel. pixel) row (pixels rows))

-- ---- the lines of a row, and then its pixels

module _ (white : ℕ) (row : List (List Answer)) where
  pub row_made : (piece : List ℕ) (x y z : DeskState) → piece ≡ row_bytes white row → Made (flat_map lines_of row) x y → Made (put Picture piece ∷ []) y z → Made (row_calls white row) x z
  unfolding row_calls
  row_made piece x y z is lines pixels =
      made_then (flat_map lines_of row) (put Picture (row_bytes white row) ∷ []) x y z lines (subst (λ p. Made (put Picture p ∷ []) y z) is pixels)

  pub row_lines_broke : (stop : FrameStop) (x y : DeskState) → Broke stop (flat_map lines_of row) x y → Broke stop (row_calls white row) x y
  unfolding row_calls
  row_lines_broke stop x y broke = frame_before stop (flat_map lines_of row) (put Picture (row_bytes white row) ∷ []) x y broke

  pub row_pixels_broke : (stop : FrameStop) (piece : List ℕ) (x y z : DeskState) → piece ≡ row_bytes white row → Made (flat_map lines_of row) x y → Broke stop (put Picture piece ∷ []) y z → Broke stop (row_calls white row) x z
  unfolding row_calls
  row_pixels_broke stop piece x y z is lines broke =
      frame_after stop (flat_map lines_of row) (put Picture (row_bytes white row) ∷ []) x y z lines (subst (λ p. Broke stop (put Picture p ∷ []) y z) is broke)
