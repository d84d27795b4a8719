-- The picture and the record of a job, by the answers at the samples of its picture.
use Rattle.std.specs.Prelude.{ℕ, max, List, [], ◌∷◌, ◌++◌, length, map, flat_map, sum_by}
use Rattle.lc_num.specs.declared.channels.Rgb.{Rgb}
use Rattle.lc_desk.specs.Calls.{Call, begin, put}
use Rattle.lc_desk.specs.declared.desk.Slot.TheVariants.{Picture, Bounds}
use Rattle.lc_rated.specs.declared.answer.Answer.{Answer}
use Rattle.lc_view.specs.Samples.{flat, picture_rays}
use Rattle.lc_job.specs.declared.job.Job.{Job}
use Rattle.lc_sample.specs.Sampled.{sample_of}
use Rattle.lc_sample.specs.Scenes.{SceneParts}
use Rattle.lc_tone.specs.Picture.{picture, pixel_bytes}
use Rattle.lc_tone.specs.Tone as tone
use Rattle.lc_record.specs.Record.{line_bytes, record_header, text}
use Rattle.lc_record.specs.declared.head.Header.{Header}
use Rattle.lc_frame.specs.declared.summary.Summary.{Summary}

-- ---- the answers

-- the answers at the samples of a picture: its rows from the top, of each its pixels from the left, of each its samples
unfoldable pub answers_of : Job → SceneParts → List (List (List Answer))
answers_of job scene = map (map (map (sample_of job.cut job.permille job.rule scene))) (picture_rays job.camera)

-- the pixels of all rows
abbrev pub pixels : List (List (List Answer)) → List (List Answer)
pixels rows = flat rows

-- the samples of all pixels of all rows
abbrev pub samples : List (List (List Answer)) → List Answer
samples rows = flat (pixels rows)

-- the evaluations of these answers
abbrev pub evals_of : List Answer → ℕ
evals_of answers = sum_by (λ (a : Answer). a.evals) answers

abbrev pub estimates : List Answer → List Rgb
estimates answers = map (λ (a : Answer). a.est) answers

-- ---- the two files

abbrev pub header_of : Job → Header
header_of job = record {
  width = job.camera.width;
  height = job.camera.height;
  grid = job.camera.grid;
  cut = job.cut;
  permille = job.permille;
  rule = job.rule;
}

-- the record of these answers
abbrev pub record_text : Job → List (List (List Answer)) → List ℕ
record_text job rows = text (header_of job) (samples rows)

-- the picture of these answers' estimates
abbrev pub picture_text : Job → List (List (List Answer)) → List ℕ
picture_text job rows = picture job.camera.width job.camera.height job.white (map estimates (pixels rows))

-- ---- how they are written

-- each file is begun under its name, with its header
abbrev pub opening : Job → List Call
opening job =
    begin Picture job.picture ∷ put Picture (tone.header_bytes job.camera.width job.camera.height)
    ∷ begin Bounds job.bounds ∷ put Bounds (record_header (header_of job)) ∷ []

-- a line of the record for each sample of a pixel
abbrev pub lines_of : List Answer → List Call
lines_of pixel = map (λ a. put Bounds (line_bytes a)) pixel

-- the bytes of a row of pixels
abbrev pub row_bytes : ℕ → List (List Answer) → List ℕ
row_bytes white row = flat_map (λ pixel. pixel_bytes white (estimates pixel)) row

-- the lines of a row, and then the row of pixels
unfoldable pub row_calls : ℕ → List (List Answer) → List Call
row_calls white row = flat_map lines_of row ++ put Picture (row_bytes white row) ∷ []

-- the begins and puts of a render, in their order
unfoldable pub render_calls : Job → List (List (List Answer)) → List Call
render_calls job rows = opening job ++ flat_map (row_calls job.white) rows

-- ---- in short

-- the greatest bound of these answers in any channel
abbrev pub largest_of : List Answer → ℕ
largest_of [] = 0
largest_of (a ∷ later) = max (max a.bound.r (max a.bound.g a.bound.b)) (largest_of later)

-- how many samples there are, the sum of the sizes of their cuts, and their greatest bound
abbrev pub summary_of : List Answer → Summary
summary_of answers =
    record { samples = length answers; sizes = sum_by (λ (a : Answer). a.size) answers; largest = largest_of answers }
