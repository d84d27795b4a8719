-- One sample more of a pixel.
use Rattle.std.proofs.Common.{◌≡◌, ℕ, ◌+◌, ◌*◌, ◌-◌, ◌^◌, ◌<◌, ◌≤◌, max, List, [], ◌∷◌, ◌++◌, sum_by, length, length-append, sym, ◌∙◌, ap, subst, arith}
use Rattle.std.proofs.lemmas.List.Sums.{sum_by-append}
use Rattle.std.proofs.lemmas.List.{length-map, map-append}
use Rattle.std.proofs.Math.Nat.{mul-le-mul_left}
use Rattle.lc_num.specs.Channels.{IsRgbWithin, plus}
use Rattle.lc_num.specs.declared.channels.Rgb.{Rgb}
use Rattle.lc_desk.specs.Calls.{Made, put}
use Rattle.lc_desk.specs.Desk.{DeskState}
use Rattle.lc_desk.specs.declared.desk.Slot.TheVariants.{Bounds}
use Rattle.lc_desk.proofs.CallLemmas.{made_then}
use Rattle.lc_rated.specs.declared.answer.Answer.{Answer}
use Rattle.lc_record.specs.Record.{line_bytes}
use Rattle.lc_tone.specs.Picture.{pixel_bytes}
use Rattle.lc_view.specs.Samples.{pixel_rays, ray_at}
use Rattle.lc_job.specs.declared.job.Job.{Job}
use Rattle.lc_sample.specs.Scenes.{SceneParts}
use Rattle.lc_sample.specs.Sampled.{sample_of}
use Rattle.lc_frame.specs.Frames.{estimates, evals_of, largest_of, lines_of}
use Rattle.lc_frame.specs.Parts.{bytes_of_sums, pixel_answers, sample_at, sums_of, with_more}
use Rattle.lc_frame.specs.Stops.{Broke}
use Rattle.lc_frame.specs.declared.stop.FrameStop.{FrameStop}
use Rattle.lc_frame.specs.declared.summary.Summary.{Summary}
use Rattle.lc_frame.proofs.LoopLemmas.{items, items-all, items-length, items-map, items-more, items-split, rest_of, frame_after, frame_before}

-- the answers of a pixel are those of its samples by their numbers
pub pixel_answers-is : (job : Job) (scene : SceneParts) (row col : ℕ) → pixel_answers job scene row col ≡ items (sample_at job scene row col) (job.camera.grid * job.camera.grid)
unfolding pixel_answers pixel_rays sample_at
pixel_answers-is job scene row col = items-map (ray_at job.camera row col) (sample_of job.cut job.permille job.rule scene) (job.camera.grid * job.camera.grid)

pub lines-append : (xs ys : List Answer) → lines_of (xs ++ ys) ≡ lines_of xs ++ lines_of ys
lines-append xs ys = map-append (λ (a : Answer). put Bounds (line_bytes a)) xs ys

pub evals-append : (xs ys : List Answer) → evals_of (xs ++ ys) ≡ evals_of xs + evals_of ys
evals-append xs ys = sum_by-append (λ (a : Answer). a.evals) xs ys

pub sizes-append : (xs ys : List Answer) → sum_by (λ (a : Answer). a.size) (xs ++ ys) ≡ sum_by (λ (a : Answer). a.size) xs + sum_by (λ (a : Answer). a.size) ys
sizes-append xs ys = sum_by-append (λ (a : Answer). a.size) xs ys

pub largest-append : (xs ys : List Answer) → largest_of (xs ++ ys) ≡ max (largest_of xs) (largest_of ys)
largest-append [] ys = omega arith
largest-append (x ∷ xs) ys = omega (arith, largest-append xs ys)

same_sums : (r g b r' g' b' : ℕ) → r ≡ r' → g ≡ g' → b ≡ b' → ◌≡◌ {A = Rgb} (record { r = r; g = g; b = b }) (record { r = r'; g = g'; b = b' })
same_sums r g b r' g' b' e f h = cc

pub sums-append : (xs ys : List Rgb) → sums_of (xs ++ ys) ≡ plus (sums_of xs) (sums_of ys)
sums-append xs ys =
    same_sums _ _ _ _ _ _ (sum_by-append (λ (c : Rgb). c.r) xs ys) (sum_by-append (λ (c : Rgb). c.g) xs ys) (sum_by-append (λ (c : Rgb). c.b) xs ys)

-- the sums over the first k, and then one more
pub sums-more : (f : ℕ → Rgb) (k : ℕ) → sums_of (items f (k + 1)) ≡ plus (sums_of (items f k)) (f k)
sums-more f k =
    ap sums_of (items-more f k) ∙ sums-append (items f k) (f k ∷ []) ∙ ap (plus (sums_of (items f k))) (same_sums _ _ _ _ _ _ (omega arith) (omega arith) (omega arith))

pub same_summary : (n s l n' s' l' : ℕ) → n ≡ n' → s ≡ s' → l ≡ l' → ◌≡◌ {A = Summary} (record { samples = n; sizes = s; largest = l }) (record { samples = n'; sizes = s'; largest = l' })
same_summary n s l n' s' l' e f h = cc

-- some samples, and then some more
pub more-append : (xs ys : List Answer) (s : Summary) → with_more (xs ++ ys) s ≡ with_more ys (with_more xs s)
more-append xs ys s =
    same_summary _ _ _ _ _ _ (omega (arith, length-append xs ys)) (omega (arith, sizes-append xs ys)) (omega (arith, largest-append xs ys))

-- the sample k of a loop over samples: the lines so far and its line
module _ (f : ℕ → Answer) (k : ℕ) where
  pub lines_more : (x y z : DeskState) → Made (lines_of (items f k)) x y → Made (put Bounds (line_bytes (f k)) ∷ []) y z → Made (lines_of (items f (k + 1))) x z
  lines_more x y z made step =
      subst (λ calls. Made calls x z) (sym (ap lines_of (items-more f k) ∙ lines-append (items f k) (f k ∷ [])))
      (made_then (lines_of (items f k)) (lines_of (f k ∷ [])) x y z made step)

  pub lines_broke : (stop : FrameStop) (n : ℕ) (x y z : DeskState) → k < n → Made (lines_of (items f k)) x y → Broke stop (put Bounds (line_bytes (f k)) ∷ []) y z → Broke stop (lines_of (items f n)) x z
  lines_broke stop n x y z lt made broke =
      let rest : List Answer = rest_of (λ j. f j ∷ []) k n in
      subst (λ calls. Broke stop calls x z)
      (sym (ap lines_of (items-split f k n lt) ∙ lines-append (items f k ++ f k ∷ []) rest ∙ ap (λ l. l ++ lines_of rest) (lines-append (items f k) (f k ∷ []))))
      (frame_before stop (lines_of (items f k) ++ lines_of (f k ∷ [])) (lines_of rest) x z (frame_after stop (lines_of (items f k)) (lines_of (f k ∷ [])) x y z made broke))

  pub evals_more : evals_of (items f (k + 1)) ≡ evals_of (items f k) + (f k).evals
  evals_more = ap evals_of (items-more f k) ∙ evals-append (items f k) (f k ∷ []) ∙ ap (λ n. evals_of (items f k) + n) (omega arith)

  pub sums_more : sums_of (estimates (items f (k + 1))) ≡ plus (sums_of (estimates (items f k))) (f k).est
  sums_more =
      ap sums_of (items-map f (λ (a : Answer). a.est) (k + 1)) ∙ sums-more (λ j. (f j).est) k
      ∙ ap (λ l. plus (sums_of l) (f k).est) (sym (items-map f (λ (a : Answer). a.est) k))

  pub summary_more : (s : Summary) → with_more (items f (k + 1)) s ≡ with_more (f k ∷ []) (with_more (items f k) s)
  summary_more s = ap (λ l. with_more l s) (items-more f k) ∙ more-append (items f k) (f k ∷ []) s

-- ---- a pixel of a job's picture

-- a pixel has at most 256 samples
pub few_samples : (grid : ℕ) → grid ≤ 16 → grid * grid ≤ 256
few_samples grid h = let a : grid * grid ≤ grid * 16 = mul-le-mul_left grid h in omega (arith, a)

pub within_most : (k : ℕ) (sums : Rgb) → k ≤ 256 → IsRgbWithin (k * 2 ^ 117) sums → IsRgbWithin (2 ^ 126) sums
within_most k sums few h = record { r = omega (arith, h.r); g = omega (arith, h.g); b = omega (arith, h.b) }

pub within_more : (k : ℕ) (sums est : Rgb) → IsRgbWithin (k * 2 ^ 117) sums → IsRgbWithin (2 ^ 117 - 1) est → IsRgbWithin ((k + 1) * 2 ^ 117) (plus sums est)
within_more k sums est h e = record { r = omega (arith, h.r, e.r); g = omega (arith, h.g, e.g); b = omega (arith, h.b, e.b) }

module _ (job : Job) (scene : SceneParts) (row col k : ℕ) (piece : List ℕ) (is : piece ≡ line_bytes (sample_at job scene row col k)) where
  abbrev f : ℕ → Answer
  f = sample_at job scene row col

  pub pixel_more : (x y z : DeskState) → Made (lines_of (items (sample_at job scene row col) k)) x y → Made (put Bounds piece ∷ []) y z → Made (lines_of (items (sample_at job scene row col) (k + 1))) x z
  pixel_more x y z made step = lines_more f k x y z made (subst (λ p. Made (put Bounds p ∷ []) y z) is step)

  pub pixel_broke : (stop : FrameStop) (x y z : DeskState) → k < job.camera.grid * job.camera.grid → Made (lines_of (items (sample_at job scene row col) k)) x y → Broke stop (put Bounds piece ∷ []) y z → Broke stop (lines_of (pixel_answers job scene row col)) x z
  pixel_broke stop x y z lt made broke =
      subst (λ l. Broke stop (lines_of l) x z) (sym (pixel_answers-is job scene row col))
      (lines_broke f k stop (job.camera.grid * job.camera.grid) x y z lt made (subst (λ p. Broke stop (put Bounds p ∷ []) y z) is broke))

-- ---- one sample more, by what the calls of a turn say

module _ (f : ℕ → Answer) (k : ℕ) (a : Answer) (is : a ≡ f k) where
  pub sums_step : (before now : Rgb) → before ≡ sums_of (estimates (items f k)) → now ≡ plus before a.est → now ≡ sums_of (estimates (items f (k + 1)))
  sums_step before now so_far step =
      step ∙ ap (λ s. plus s a.est) so_far ∙ ap (λ (x : Answer). plus (sums_of (estimates (items f k))) x.est) is ∙ sym (sums_more f k)

  pub evals_step : (before mid now : ℕ) → mid ≡ before + evals_of (items f k) → now ≡ mid + a.evals → now ≡ before + evals_of (items f (k + 1))
  evals_step before mid now so_far step = omega (arith, so_far, step, evals_more f k, ap (λ (x : Answer). x.evals) is)

  one_more : (s now : Summary) → now.samples ≡ s.samples + 1 → now.sizes ≡ s.sizes + a.size → now.largest ≡ max s.largest (max a.bound.r (max a.bound.g a.bound.b)) → now ≡ with_more (a ∷ []) s
  one_more s now n z l = same_summary _ _ _ _ _ _ (omega (arith, n)) (omega (arith, z)) (omega (arith, l))

  pub summary_step : (first before now : Summary) → before ≡ with_more (items f k) first → now.samples ≡ before.samples + 1 → now.sizes ≡ before.sizes + a.size → now.largest ≡ max before.largest (max a.bound.r (max a.bound.g a.bound.b)) → now ≡ with_more (items f (k + 1)) first
  summary_step first before now so_far n z l =
      one_more before now n z l ∙ ap (with_more (a ∷ [])) so_far ∙ ap (λ x. with_more (x ∷ []) (with_more (items f k) first)) is ∙ sym (summary_more f k first)

-- at the end of the loop the samples are all those of the pixel
pub whole : (job : Job) (scene : SceneParts) (row col k : ℕ) → k ≤ job.camera.grid * job.camera.grid → job.camera.grid * job.camera.grid ≤ k → items (sample_at job scene row col) k ≡ pixel_answers job scene row col
whole job scene row col k most least =
    items-all (sample_at job scene row col) k (job.camera.grid * job.camera.grid) most least ∙ sym (pixel_answers-is job scene row col)

-- the bytes of a pixel by the sums over its samples are those of their means
pub bytes_by_sums : (white count : ℕ) (pixel : List Rgb) (sums : Rgb) → length pixel ≡ count → sums ≡ sums_of pixel → bytes_of_sums white count sums ≡ pixel_bytes white pixel
unfolding pixel_bytes
bytes_by_sums white count pixel sums n is = ap (bytes_of_sums white count) is ∙ ap (λ m. bytes_of_sums white m (sums_of pixel)) (sym n)

-- a pixel has an estimate for each sample
pub estimates-length : (job : Job) (scene : SceneParts) (row col : ℕ) → length (estimates (pixel_answers job scene row col)) ≡ job.camera.grid * job.camera.grid
estimates-length job scene row col =
    length-map (pixel_answers job scene row col) (λ (a : Answer). a.est) ∙ ap length (pixel_answers-is job scene row col)
    ∙ items-length (sample_at job scene row col) (job.camera.grid * job.camera.grid)
