-- The parts of a picture, of which clauses of private functions alone speak.
use Rattle.std.specs.Prelude.{ℕ, ◌+◌, ◌/◌, max, List, [], ◌∷◌, length, map, sum_by}
use Rattle.lc_num.specs.declared.channels.Rgb.{Rgb}
use Rattle.lc_rated.specs.declared.answer.Answer.{Answer}
use Rattle.lc_view.specs.Samples.{pixel_rays, ray_at, row_rays}
use Rattle.lc_job.specs.declared.job.Job.{Job}
use Rattle.lc_sample.specs.Sampled.{light_of, sample_of}
use Rattle.lc_sample.specs.Scenes.{SceneParts}
use Rattle.lc_tone.specs.Tone.{byte_of}
use Rattle.lc_frame.specs.declared.summary.Summary.{Summary}
use Rattle.lc_frame.specs.Frames.{largest_of}

-- the answer at sample k of a pixel
unfoldable pub sample_at : Job → SceneParts → ℕ → ℕ → ℕ → Answer
sample_at job scene row col k = sample_of job.cut job.permille job.rule scene (ray_at job.camera row col k)

-- the answers at the samples of a pixel
unfoldable pub pixel_answers : Job → SceneParts → ℕ → ℕ → List Answer
pixel_answers job scene row col = map (sample_of job.cut job.permille job.rule scene) (pixel_rays job.camera row col)

-- the answers at the samples of the pixels of a row
unfoldable pub row_answers : Job → SceneParts → ℕ → List (List Answer)
row_answers job scene row = map (map (sample_of job.cut job.permille job.rule scene)) (row_rays job.camera row)

-- the sum over all lights at sample k of a pixel
unfoldable pub sum_at : Job → SceneParts → ℕ → ℕ → ℕ → Rgb
sum_at job scene row col k = light_of scene (ray_at job.camera row col k)

-- the sums over all lights at the samples of a pixel
unfoldable pub pixel_lights : Job → SceneParts → ℕ → ℕ → List Rgb
pixel_lights job scene row col = map (light_of scene) (pixel_rays job.camera row col)

-- the sums over all lights at the samples of the pixels of a row
unfoldable pub row_lights : Job → SceneParts → ℕ → List (List Rgb)
row_lights job scene row = map (map (light_of scene)) (row_rays job.camera row)

-- the sums in each channel
abbrev pub sums_of : List Rgb → Rgb
sums_of cs =
    record { r = sum_by (λ (c : Rgb). c.r) cs; g = sum_by (λ (c : Rgb). c.g) cs; b = sum_by (λ (c : Rgb). c.b) cs }

-- the bytes of a pixel by the sums over so many samples
abbrev pub bytes_of_sums : ℕ → ℕ → Rgb → List ℕ
bytes_of_sums white count sums =
    byte_of (sums.r / count) white ∷ byte_of (sums.g / count) white ∷ byte_of (sums.b / count) white ∷ []

-- a summary with these samples more
abbrev pub with_more : List Answer → Summary → Summary
with_more answers s = record {
  samples = s.samples + length answers;
  sizes = s.sizes + sum_by (λ (a : Answer). a.size) answers;
  largest = max s.largest (largest_of answers);
}
