-- The samples of a record by their numbers, and those that an audit looks at.
use Rattle.std.proofs.Common.{◌≡◌, ℕ, zero, suc, ◌+◌, ◌*◌, ◌^◌, ◌<◌, ◌≤◌, Some, List, [], ◌∷◌, map, get_or, length, refl, sym, ◌∙◌, ap, arith, slice_get}
use Rattle.std.specs.Prelude.{option_map, zip}
use Rattle.std.specs.List.{enumerate_from}
use Rattle.std.specs.Int.{div_ceil}
use Rattle.std.proofs.lemmas.List.{length-map}
use Rattle.std.proofs.lemmas.List.FromFn.{length-enumerate_from}
use Rattle.std.proofs.lemmas.Option.{slice_get-map, slice_get-get_or, get_or_from_slice_get, same_Some}
use Rattle.std.proofs.lemmas.Slice.Zip.{length-zip}
use Rattle.std.proofs.lemmas.Nat.{mul-le}
use Rattle.lc_num.specs.Channels.{black}
use Rattle.lc_num.specs.declared.channels.Rgb.{Rgb}
use Rattle.lc_rated.specs.declared.answer.Answer.{Answer}
use Rattle.lc_view.specs.Camera.{IsCamera}
use Rattle.lc_view.specs.declared.camera.Camera.{Camera}
use Rattle.lc_view.specs.Samples.{sample_count, sample_rays}
use Rattle.lc_view.specs.declared.ray.Ray.{Ray}
use Rattle.lc_view.proofs.SampleLemmas.{sample_rays-length}
use Rattle.lc_job.specs.declared.job.Job.{Job}
use Rattle.lc_sample.specs.Scenes.{SceneParts}
use Rattle.lc_sample.specs.Sampled.{light_of, no_answer}
use Rattle.lc_audit.specs.Verdicts.{looked_at, sample_by, samples_of}
use Rattle.lc_audit.specs.declared.sample.Sample.{Sample}
use Rattle.lc_audit.proofs.Strides.{strided-get, strided-length}

-- the samples by their lights and lines, numbered from n
abbrev pub numbered : ℕ → List Rgb → List Answer → List Sample
numbered n lights lines = map sample_by (enumerate_from n (zip lights lines))

same_sample : (n m : ℕ) (l k : Rgb) (a b : Answer) → n ≡ m → l ≡ k → a ≡ b
    → ◌≡◌ {A = Sample} (record { number = n; light = l; line = a }) (record { number = m; light = k; line = b })
same_sample n m l k a b e f h = cc

pub numbered-get : (n : ℕ) (lights : List Rgb) (lines : List Answer) (k : ℕ) (light : Rgb) (line : Answer)
    → slice_get lights k ≡ Some light → slice_get lines k ≡ Some line
    → slice_get (numbered n lights lines) k ≡ Some (record { number = n + k; light = light; line = line })
numbered-get n [] lines k light line e f = cc
numbered-get n (l ∷ ls) [] k light line e f = cc
numbered-get n (l ∷ ls) (a ∷ bs) zero light line e f =
    ap Some (same_sample n (n + 0) l light a line (omega arith) (same_Some l light e) (same_Some a line f))
numbered-get n (l ∷ ls) (a ∷ bs) (suc k) light line e f =
    numbered-get (n + 1) ls bs k light line e f
    ∙ ap Some (same_sample ((n + 1) + k) (n + suc k) light light line line (omega arith) refl refl)

pub numbered-length : (n : ℕ) (lights : List Rgb) (lines : List Answer) → length lights ≡ length lines
    → length (numbered n lights lines) ≡ length lines
numbered-length n lights lines e =
    length-map (enumerate_from n (zip lights lines)) sample_by ∙ length-enumerate_from n (zip lights lines)
    ∙ length-zip lights lines ∙ omega (arith, e)

-- what stands at a place is a light and a line
pub numbered-parts : (n : ℕ) (lights : List Rgb) (lines : List Answer) (k : ℕ) (s : Sample)
    → slice_get (numbered n lights lines) k ≡ Some s
    → (s.number ≡ n + k) × (slice_get lights k ≡ Some s.light) × (slice_get lines k ≡ Some s.line)
numbered-parts n [] lines k s e = cc
numbered-parts n (l ∷ ls) [] k s e = cc
numbered-parts n (l ∷ ls) (a ∷ bs) zero s e =
    let same : ◌≡◌ {A = Sample} (record { number = n; light = l; line = a }) s = same_Some (record { number = n; light = l; line = a }) s e in
    let z : n ≡ n + 0 = omega arith in
    (sym (ap (λ (t : Sample). t.number) same) ∙ z, ap (λ (t : Sample). Some t.light) same, ap (λ (t : Sample). Some t.line) same)
numbered-parts n (l ∷ ls) (a ∷ bs) (suc k) s e =
    let t = numbered-parts (n + 1) ls bs k s e in
    let z : (n + 1) + k ≡ n + suc k = omega arith in
    (t.0 ∙ z, t.1, t.2)

-- each has its place as its number
pub numbers : (lights : List Rgb) (lines : List Answer) (d : Sample) → length lights ≡ length lines → (k : ℕ)
    → k < length (samples_of lights lines) → (get_or (samples_of lights lines) k d).number ≡ k
numbers lights lines d e k lt =
    let n : length (samples_of lights lines) ≡ length lines = numbered-length 0 lights lines e in
    let light : Rgb = get_or lights k black in
    let line : Answer = get_or lines k no_answer in
    let at : slice_get (samples_of lights lines) k ≡ Some (record { number = 0 + k; light = light; line = line }) =
    numbered-get 0 lights lines k light line (slice_get-get_or lights k black (omega (arith, lt, n, e))) (slice_get-get_or lines k no_answer (omega (arith, lt, n, e)))
    in
    ap (λ (s : Sample). s.number) (get_or_from_slice_get (samples_of lights lines) k (record { number = 0 + k; light = light; line = line }) d at)
    ∙ omega arith

-- ---- the samples of a scene and a job

pub count_small : (camera : Camera) → IsCamera camera → sample_count camera ≤ 2 ^ 32
count_small camera h =
    let pixels : camera.width * camera.height ≤ 4096 * 4096 = mul-le camera.width camera.height 4096 4096 h.width.1 h.height.1 in
    let each : camera.grid * camera.grid ≤ 16 * 16 = mul-le camera.grid camera.grid 16 16 h.grid.1 h.grid.1 in
    omega (arith, mul-le (camera.width * camera.height) (camera.grid * camera.grid) (4096 * 4096) (16 * 16) pixels each)

abbrev pub lights_of : SceneParts → Job → List Rgb
lights_of scene job = map (light_of scene) (sample_rays job.camera)

pub lights-length : (scene : SceneParts) (job : Job) (lines : List Answer) → length lines ≡ sample_count job.camera
    → length (lights_of scene job) ≡ length lines
lights-length scene job lines whole =
    length-map (sample_rays job.camera) (light_of scene) ∙ sample_rays-length job.camera ∙ sym whole

pub lights-get : (scene : SceneParts) (rays : List Ray) (k : ℕ) (ray : Ray) → slice_get rays k ≡ Some ray
    → slice_get (map (light_of scene) rays) k ≡ Some (light_of scene ray)
lights-get scene rays k ray e = slice_get-map (light_of scene) rays k ∙ ap (option_map (light_of scene)) e

-- a light is that of a ray
pub lights-ray : (scene : SceneParts) (rays : List Ray) (k : ℕ) (light : Rgb)
    → slice_get (map (light_of scene) rays) k ≡ Some light
    → (ray : Ray) × (slice_get rays k ≡ Some ray) × (light_of scene ray ≡ light)
lights-ray scene [] k light e = cc
lights-ray scene (ray ∷ rays) zero light e = (ray, refl, same_Some (light_of scene ray) light e)
lights-ray scene (ray ∷ rays) (suc k) light e = lights-ray scene rays k light e

module _ (scene : SceneParts) (job : Job) (lines : List Answer) (step : ℕ) (some : 0 < step) (whole : length lines ≡ sample_count job.camera) where
  same : length (lights_of scene job) ≡ length lines
  same = lights-length scene job lines whole

  count : length (samples_of (lights_of scene job) lines) ≡ length lines
  count = numbered-length 0 (lights_of scene job) lines same

  none : Sample
  none = record { number = 0; light = black; line = no_answer }

  pub looked-length : length (looked_at scene job lines step) ≡ div_ceil (length lines) step
  unfolding looked_at
  looked-length =
      strided-length (λ (s : Sample). s.number) (samples_of (lights_of scene job) lines) step some none (numbers (lights_of scene job) lines none same)
      ∙ ap (λ n. div_ceil n step) count

  pub looked-get : (turn : ℕ) (ray : Ray) (light : Rgb) (line : Answer) → turn < div_ceil (length lines) step
      → slice_get (sample_rays job.camera) (turn * step) ≡ Some ray → light ≡ light_of scene ray
      → slice_get lines (turn * step) ≡ Some line
      → slice_get (looked_at scene job lines step) turn ≡ Some (record { number = turn * step; light = light; line = line })
  unfolding looked_at
  looked-get turn ray light line lt e is f =
      let s : Sample = record { number = turn * step; light = light; line = line } in
      let z : 0 + turn * step ≡ turn * step = omega arith in
      let inside : turn < div_ceil (length (samples_of (lights_of scene job) lines)) step = rw count lt in
      let at : slice_get (samples_of (lights_of scene job) lines) (turn * step) ≡ Some s =
      numbered-get 0 (lights_of scene job) lines (turn * step) light line (lights-get scene (sample_rays job.camera) (turn * step) ray e ∙ ap Some (sym is)) f
      ∙ ap Some (same_sample (0 + turn * step) (turn * step) light light line line z refl refl)
      in
      slice_get-get_or (looked_at scene job lines step) turn s (omega (arith, lt, looked-length))
      ∙ ap Some (strided-get (λ (s : Sample). s.number) (samples_of (lights_of scene job) lines) step some s (numbers (lights_of scene job) lines s same) turn inside
      ∙ get_or_from_slice_get (samples_of (lights_of scene job) lines) (turn * step) s s at)

-- an item that is read of the same list
pub line_get : (read lines : List Answer) (k : ℕ) (d : Answer) → read ≡ lines → k < length lines
    → slice_get lines k ≡ Some (get_or read k d)
line_get read lines k d e lt = slice_get-get_or lines k d lt ∙ ap (λ l. Some (get_or l k d)) (sym e)
