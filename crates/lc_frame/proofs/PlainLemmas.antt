-- A picture by the sums over all lights: one sample, one pixel and one row more, and its start.
use Rattle.std.proofs.Common.{◌≡◌, ℕ, ◌+◌, ◌*◌, ◌<◌, ◌≤◌, List, [], ◌∷◌, ◌++◌, length, map, flat_map, sym, ◌∙◌, ap, subst}
use Rattle.lc_num.specs.Channels.{plus}
use Rattle.lc_num.specs.declared.channels.Rgb.{Rgb}
use Rattle.lc_desk.specs.Calls.{Made, begin, put}
use Rattle.lc_desk.specs.Desk.{DeskState}
use Rattle.lc_desk.specs.declared.desk.Slot.TheVariants.{Picture}
use Rattle.lc_desk.proofs.CallLemmas.{made_then}
use Rattle.lc_view.specs.Samples.{picture_rays, pixel_rays, ray_at, row_rays}
use Rattle.lc_job.specs.declared.job.Job.{Job}
use Rattle.lc_sample.specs.Scenes.{SceneParts}
use Rattle.lc_sample.specs.Sampled.{light_of}
use Rattle.lc_tone.specs.Picture.{pixel_bytes}
use Rattle.lc_tone.specs.Tone as tone
use Rattle.lc_frame.specs.Parts.{bytes_of_sums, pixel_lights, row_lights, sum_at, sums_of}
use Rattle.lc_frame.specs.PlainFrames.{plain_bytes, plain_calls, plain_lights, plain_put}
use Rattle.lc_frame.specs.Stops.{Broke, StoppedIn}
use Rattle.lc_frame.specs.declared.stop.FrameStop.{FrameStop}
use Rattle.lc_frame.proofs.LoopLemmas.{frame_after, frame_before, items, items-all, items-length, items-map}
use Rattle.lc_frame.proofs.PixelLemmas.{bytes_by_sums, sums-more}
use Rattle.lc_frame.proofs.RowLemmas.{calls_broke, calls_more, flat-more}
use Rattle.lc_frame.proofs.StartLemmas.{start-is, starting, stopped_in}

module _ (job : Job) (scene : SceneParts) where
  -- ---- the sums by their numbers

  pub pixel_lights-is : (row col : ℕ) → pixel_lights job scene row col ≡ items (sum_at job scene row col) (job.camera.grid * job.camera.grid)
  unfolding pixel_lights pixel_rays sum_at
  pixel_lights-is row col = items-map (ray_at job.camera row col) (light_of scene) (job.camera.grid * job.camera.grid)

  pub row_lights-is : (row : ℕ) → row_lights job scene row ≡ items (pixel_lights job scene row) job.camera.width
  unfolding row_lights row_rays pixel_lights
  row_lights-is row = items-map (pixel_rays job.camera row) (map (light_of scene)) job.camera.width

  pub plain_lights-is : plain_lights job scene ≡ items (row_lights job scene) job.camera.height
  unfolding plain_lights picture_rays row_lights
  plain_lights-is = items-map (row_rays job.camera) (map (map (light_of scene))) job.camera.height

  -- ---- at the end of the loops

  pub whole_sums : (row col k : ℕ) → k ≤ job.camera.grid * job.camera.grid → job.camera.grid * job.camera.grid ≤ k → items (sum_at job scene row col) k ≡ pixel_lights job scene row col
  whole_sums row col k most least = items-all (sum_at job scene row col) k (job.camera.grid * job.camera.grid) most least ∙ sym (pixel_lights-is row col)

  pub whole_pixels : (row col : ℕ) → col ≤ job.camera.width → job.camera.width ≤ col → items (pixel_lights job scene row) col ≡ row_lights job scene row
  whole_pixels row col most least = items-all (pixel_lights job scene row) col job.camera.width most least ∙ sym (row_lights-is row)

  pub whole_rows : (row : ℕ) → row ≤ job.camera.height → job.camera.height ≤ row → items (row_lights job scene) row ≡ plain_lights job scene
  whole_rows row most least = items-all (row_lights job scene) row job.camera.height most least ∙ sym plain_lights-is

  -- ---- one more

  -- one sample more of a pixel, by what the calls of a turn say
  pub sample_more : (row col k : ℕ) (before light now : Rgb) → before ≡ sums_of (items (sum_at job scene row col) k) → light ≡ sum_at job scene row col k → now ≡ plus before light → now ≡ sums_of (items (sum_at job scene row col) (k + 1))
  sample_more row col k before light now so_far is step =
      step ∙ ap (λ s. plus s light) so_far ∙ ap (plus (sums_of (items (sum_at job scene row col) k))) is ∙ sym (sums-more (sum_at job scene row col) k)

  pixel_length : (row col : ℕ) → length (pixel_lights job scene row col) ≡ job.camera.grid * job.camera.grid
  pixel_length row col = ap length (pixel_lights-is row col) ∙ items-length (sum_at job scene row col) (job.camera.grid * job.camera.grid)

  -- one pixel more of a row
  pub pixel_more : (row col : ℕ) (before now : List ℕ) (sums : Rgb) → before ≡ plain_bytes job.white (items (pixel_lights job scene row) col) → sums ≡ sums_of (pixel_lights job scene row col) → now ≡ before ++ bytes_of_sums job.white (job.camera.grid * job.camera.grid) sums → now ≡ plain_bytes job.white (items (pixel_lights job scene row) (col + 1))
  pixel_more row col before now sums so_far is step =
      step ∙ ap (λ l. l ++ bytes_of_sums job.white (job.camera.grid * job.camera.grid) sums) so_far
      ∙ ap (λ l. plain_bytes job.white (items (pixel_lights job scene row) col) ++ l) (bytes_by_sums job.white _ (pixel_lights job scene row col) sums (pixel_length row col) is)
      ∙ sym (flat-more (pixel_lights job scene row) (pixel_bytes job.white) col)

  -- one row more of a picture, and a refusal of it
  module _ (row : ℕ) (piece : List ℕ) (is : piece ≡ plain_bytes job.white (row_lights job scene row)) (x y z : DeskState) (made : Made (flat_map (plain_put job.white) (items (row_lights job scene) row)) x y) where
    pub row_more : Made (put Picture piece ∷ []) y z → Made (flat_map (plain_put job.white) (items (row_lights job scene) (row + 1))) x z
    row_more step = calls_more (row_lights job scene) (plain_put job.white) row x y z made (subst (λ p. Made (put Picture p ∷ []) y z) is step)

    pub row_refused : (stop : FrameStop) → row < job.camera.height → Broke stop (put Picture piece ∷ []) y z → Broke stop (flat_map (plain_put job.white) (plain_lights job scene)) x z
    row_refused stop lt broke =
        subst (λ l. Broke stop (flat_map (plain_put job.white) l) x z) (sym plain_lights-is)
        (calls_broke (row_lights job scene) (plain_put job.white) row stop job.camera.height x y z lt made (subst (λ p. Broke stop (put Picture p ∷ []) y z) is broke))

-- ---- the start of the picture, and then its rows

module _ (job : Job) (rows : List (List (List Rgb))) (name head : List ℕ) (named : name ≡ job.picture) (headed : head ≡ tone.header_bytes job.camera.width job.camera.height) where
  -- the calls by what the name and the header are
  plain-is : starting (begin Picture name) (put Picture head) ++ flat_map (plain_put job.white) rows ≡ plain_calls job rows
  unfolding plain_calls
  plain-is = ap (λ l. l ++ flat_map (plain_put job.white) rows) (start-is Picture name job.picture head _ named headed)

  pub plain_made : (x y z : DeskState) → Made (begin Picture name ∷ put Picture head ∷ []) x y → Made (flat_map (plain_put job.white) rows) y z → Made (plain_calls job rows) x z
  plain_made x y z a b = subst (λ calls. Made calls x z) plain-is (made_then (starting (begin Picture name) (put Picture head)) (flat_map (plain_put job.white) rows) x y z a b)

  pub plain_stopped_start : (stop : FrameStop) (x y : DeskState) → Broke stop (begin Picture name ∷ put Picture head ∷ []) x y → StoppedIn stop (plain_calls job rows) x y
  plain_stopped_start stop x y a = subst (λ calls. StoppedIn stop calls x y) plain-is (stopped_in stop _ x y (frame_before stop (starting (begin Picture name) (put Picture head)) (flat_map (plain_put job.white) rows) x y a))

  pub plain_stopped_rows : (stop : FrameStop) (x y z : DeskState) → Made (begin Picture name ∷ put Picture head ∷ []) x y → Broke stop (flat_map (plain_put job.white) rows) y z → StoppedIn stop (plain_calls job rows) x z
  plain_stopped_rows stop x y z a b = subst (λ calls. StoppedIn stop calls x z) plain-is (stopped_in stop _ x z (frame_after stop (starting (begin Picture name) (put Picture head)) (flat_map (plain_put job.white) rows) x y z a b))
