-- The picture of a job by the sums over all lights at the samples of its picture.
use Rattle.std.specs.Prelude.{ℕ, List, [], ◌∷◌, map, flat_map}
use Rattle.lc_num.specs.declared.channels.Rgb.{Rgb}
use Rattle.lc_desk.specs.Calls.{Call, begin, put}
use Rattle.lc_desk.specs.declared.desk.Slot.TheVariants.{Picture}
use Rattle.lc_view.specs.Samples.{flat, picture_rays}
use Rattle.lc_job.specs.declared.job.Job.{Job}
use Rattle.lc_sample.specs.Sampled.{light_of}
use Rattle.lc_sample.specs.Scenes.{SceneParts}
use Rattle.lc_tone.specs.Picture.{picture, pixel_bytes}
use Rattle.lc_tone.specs.Tone as tone

-- the sums over all lights at the samples of a picture: its rows from the top, of each its pixels from the left, of
-- each its samples
unfoldable pub plain_lights : Job → SceneParts → List (List (List Rgb))
plain_lights job scene = map (map (map (light_of scene))) (picture_rays job.camera)

-- the picture of these sums
abbrev pub plain_picture : Job → List (List (List Rgb)) → List ℕ
plain_picture job rows = picture job.camera.width job.camera.height job.white (flat rows)

-- the bytes of a row of pixels
abbrev pub plain_bytes : ℕ → List (List Rgb) → List ℕ
plain_bytes white row = flat_map (pixel_bytes white) row

-- the put of a row of pixels
abbrev pub plain_put : ℕ → List (List Rgb) → List Call
plain_put white row = put Picture (plain_bytes white row) ∷ []

-- the begin and the puts of the picture, in their order: its header, and then each row of pixels
unfoldable pub plain_calls : Job → List (List (List Rgb)) → List Call
plain_calls job rows =
    begin Picture job.picture ∷ put Picture (tone.header_bytes job.camera.width job.camera.height) ∷ flat_map
    (plain_put job.white) rows
