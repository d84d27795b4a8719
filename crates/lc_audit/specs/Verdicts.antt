-- The verdict on a record: whether what its lines tell of the light holds at some of its samples.
use Rattle.std.specs.Prelude.{◌≡◌, ◌⊎◌, ℕ, ◌*◌, ◌%◌, Bool, not, ◌&&◌, ◌||◌, nat_lt, ◌==◌, if◌then◌else◌, Option, None, Some, List, [], ◌∷◌, length, map, filter, find, flat_map, slice_get, zip}
use Rattle.std.specs.List.{enumerate_from}
use Rattle.lc_num.specs.declared.channels.Rgb.{Rgb}
use Rattle.lc_rated.specs.Cuts.{IsFraction, IsNear, apart}
use Rattle.lc_rated.specs.declared.answer.Answer.{Answer}
use Rattle.lc_view.specs.Samples.{sample_rays}
use Rattle.lc_view.specs.declared.ray.Ray.{Ray}
use Rattle.lc_job.specs.declared.job.Job.{Job}
use Rattle.lc_sample.specs.Scenes.{SceneParts}
use Rattle.lc_sample.specs.Sampled.{light_of}
use Rattle.lc_audit.specs.declared.channel.Channel.{Channel}
use Rattle.lc_audit.specs.declared.channel.Channel.TheVariants as channel
use Rattle.lc_audit.specs.declared.sample.Sample.{Sample}
use Rattle.lc_audit.specs.declared.verdict.Miss.{Miss}
use Rattle.lc_audit.specs.declared.verdict.Verdict.{Verdict}
use Rattle.lc_audit.specs.declared.verdict.Verdict.TheVariants.{Yes, No}

-- ---- channels

abbrev pub channel_number : Channel → ℕ
channel_number channel.Red = 0
channel_number channel.Green = 1
channel_number channel.Blue = 2

-- a channel of a radiance
abbrev pub part : Channel → Rgb → ℕ
part channel.Red light = light.r
part channel.Green light = light.g
part channel.Blue light = light.b

-- ---- where a line does not hold

-- a sample in one channel
pub record Place : Type 0 where
  pub sample : Sample
  pub channel : Channel

-- the places of a sample, in the order of the channels
abbrev pub places_of : Sample → List Place
places_of s =
    record { sample = s; channel = channel.Red } ∷ record { sample = s; channel = channel.Green }
    ∷ record { sample = s; channel = channel.Blue } ∷ []

-- the number of the sample, the channel, and what the sum over all lights, the estimate and the bound are there
abbrev pub miss_of : Place → Miss
miss_of p = record {
  sample = p.sample.number;
  channel = p.channel;
  plain = part p.channel p.sample.light;
  est = part p.channel p.sample.line.est;
  bound = part p.channel p.sample.line.bound;
}

-- the estimate is further from the sum over all lights than the bound says
abbrev pub is_off : Miss → Bool
is_off m = nat_lt m.bound (apart m.plain m.est)

-- the bound is above the permille of the estimate
abbrev pub is_wide : ℕ → Miss → Bool
is_wide permille m = nat_lt (permille * m.est) (1000 * m.bound)

-- the bound does not hold at the place, or is above the permille although the cut has not the greatest size
abbrev pub fails : ℕ → ℕ → Place → Bool
fails cut permille p =
    is_off (miss_of p) || (not (p.sample.line.size == cut) && is_wide permille (miss_of p))

-- what stands at a place that fails
abbrev pub miss_at : ℕ → ℕ → Place → Option Miss
miss_at cut permille p = if fails cut permille p then Some (miss_of p) else None

-- ---- the verdict

-- a number, a radiance and a line as a sample
abbrev pub sample_by : ℕ × (Rgb × Answer) → Sample
sample_by s = record { number = s.0; light = s.1.0; line = s.1.1 }

-- the samples of a record, numbered from 0, by the sums over all lights and by its lines
abbrev pub samples_of : List Rgb → List Answer → List Sample
samples_of lights lines = map sample_by (enumerate_from 0 (zip lights lines))

-- the samples whose numbers the step divides: 0, the step, twice the step and so on
abbrev pub stepped : ℕ → List Sample → List Sample
stepped step samples = filter (λ s. s.number % step == 0) samples

-- the samples of these lines that an audit looks at
unfoldable pub looked_at : SceneParts → Job → List Answer → ℕ → List Sample
looked_at scene job lines step =
    stepped step (samples_of (map (light_of scene) (sample_rays job.camera)) lines)

-- the verdict on so many samples, by the first place that fails
abbrev pub verdict_by : ℕ → Option Place → Verdict
verdict_by checked None = Yes checked
verdict_by checked (Some p) = No (miss_of p)

-- the verdict on the lines of a record of a scene and a job, by the samples that a step divides
unfoldable pub verdict : SceneParts → Job → List Answer → ℕ → Verdict
verdict scene job lines step =
    verdict_by (length (looked_at scene job lines step))
    (find (fails job.cut job.permille) (flat_map places_of (looked_at scene job lines step)))

-- ---- what a line promises

-- The estimate of a line differs from the sum over all lights by at most its bound in each channel, and the bound is
-- within the job's permille of the estimate unless the cut has the job's greatest size.
pub record HoldsBy (job : Job) (light : Rgb) (line : Answer) : Type 0 where
  pub near : IsNear light line
  pub fraction : (line.size ≡ job.cut) ⊎ IsFraction job.permille line

-- the line of the sample of a number, if there is one, holds by the sum over all lights at the ray of the sample
abbrev pub LineHolds : SceneParts → Job → List Answer → ℕ → Type 0
LineHolds scene job lines k =
    (ray : Ray) (line : Answer) → slice_get (sample_rays job.camera) k ≡ Some ray → slice_get lines k ≡ Some line
    → HoldsBy job (light_of scene ray) line

-- there is a line of the sample of a number, and it does not hold
abbrev pub LineFails : SceneParts → Job → List Answer → ℕ → Type 0
LineFails scene job lines k =
    (ray : Ray) × (line : Answer) × (slice_get (sample_rays job.camera) k ≡ Some ray) × (slice_get lines k ≡ Some line)
    × (HoldsBy job (light_of scene ray) line → ⊥)
