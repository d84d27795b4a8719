-- A draft that is finished.
use Rattle.std.proofs.Common.{◌≡◌, ℕ, Bool, true, false, cond, not, List, [], ◌∷◌, Option, Some, None, Err, refl, sym, ap}
use Rattle.std.specs.Prelude.{find, unwrap_or, pos}
use Rattle.std.specs.Option.{ok_or}
use Rattle.lc_num.specs.Vectors.{zero_vector}
use Rattle.lc_num.specs.declared.rules.Rule.{Rule}
use Rattle.lc_num.specs.declared.rules.Rule.TheVariants as rule
use Rattle.lc_num.specs.declared.vectors.Vec3.{Vec3}
use Rattle.lc_view.specs.declared.camera.Camera.{Camera}
use Rattle.lc_job.specs.Drafts.{camera, has, made, missing_in}
use Rattle.lc_job.specs.Keys.{required}
use Rattle.lc_job.specs.declared.draft.Draft.{Draft}
use Rattle.lc_job.specs.declared.entry.Size.{Size}
use Rattle.lc_job.specs.declared.job.Job.{Job}
use Rattle.lc_job.specs.declared.key.Key.{Key}
use Rattle.lc_job.specs.declared.key.Key.TheVariants as key

-- ---- the first keyword that is missing

-- the first of these keywords that a draft has not
abbrev pub lacks : Draft → List Key → Option Key
lacks d ks = find (λ k. not (has k d)) ks

-- the keywords that have to stand after each one
abbrev pub after_size : List Key
after_size = []

abbrev pub after_at : List Key
after_at = key.Size ∷ after_size

abbrev pub after_eye : List Key
after_eye = key.At ∷ after_at

abbrev pub after_bounds : List Key
after_bounds = key.Eye ∷ after_eye

abbrev pub after_picture : List Key
after_picture = key.Bounds ∷ after_bounds

abbrev pub after_lights : List Key
after_lights = key.Picture ∷ after_picture

abbrev pub after_scene : List Key
after_scene = key.Lights ∷ after_lights

pub lacks_of_required : (d : Draft) → missing_in d ≡ lacks d required
unfolding missing_in
lacks_of_required d = refl

pub goes_on : (d : Draft) (k : Key) (later : List Key) → true ≡ has k d → lacks d (k ∷ later) ≡ lacks d later
goes_on d k later e = ap (λ (b : Bool). cond (not b) (Some k) (lacks d later)) (sym e)

pub stops_at : (d : Draft) (k : Key) (later : List Key) → false ≡ has k d → lacks d (k ∷ later) ≡ Some k
stops_at d k later e = ap (λ (b : Bool). cond (not b) (Some k) (lacks d later)) (sym e)

-- a keyword is told where nothing is said by it
pub told : {X : Type 0} (o : Option X) (k j : Key) → Err j ≡ ok_or o k → j ≡ k
told None k j e = cc
told (Some x) k j e = absurd cc

-- ---- the job

-- what is said, and the defaults, make this job
pub record Makes (d : Draft) (job : Job) : Type 0 where
  pub scene : d.scene ≡ Some job.scene
  pub lights : d.lights ≡ Some job.lights
  pub picture : d.picture ≡ Some job.picture
  pub bounds : d.bounds ≡ Some job.bounds
  pub eye : d.eye ≡ Some job.camera.eye
  pub at : d.at ≡ Some job.camera.at
  pub size : d.size ≡ Some (record { width = job.camera.width; height = job.camera.height })
  pub up : job.camera.up ≡ unwrap_or d.up (record { x = pos 0; y = pos 10000; z = pos 0 })
  pub view : job.camera.view ≡ unwrap_or d.view 5000
  pub grid : job.camera.grid ≡ unwrap_or d.grid 1
  pub seed : job.seed ≡ unwrap_or d.seed 0
  pub permille : job.permille ≡ unwrap_or d.error 20
  pub cut : job.cut ≡ unwrap_or d.cut 1000
  pub white : job.white ≡ unwrap_or d.white 10000
  pub rule : job.rule ≡ unwrap_or d.rule rule.One

unwrapped : {X : Type 0} (o : Option X) (x otherwise : X) → o ≡ Some x → x ≡ unwrap_or o otherwise
unwrapped {X = X} o x otherwise e = sym (ap (λ (p : Option X). unwrap_or p otherwise) e)

same_camera : (eye eye' at at' up up' : Vec3) (view view' width width' height height' grid grid' : ℕ) → eye ≡ eye' → at ≡ at' → up ≡ up' → view ≡ view' → width ≡ width' → height ≡ height' → grid ≡ grid'
    → ◌≡◌ {A = Camera} (record { eye = eye; at = at; up = up; view = view; width = width; height = height; grid = grid }) (record { eye = eye'; at = at'; up = up'; view = view'; width = width'; height = height'; grid = grid' })
same_camera eye eye' at at' up up' view view' width width' height height' grid grid' a b c d e f g = cc

same_job : (scene scene' lights lights' picture picture' bounds bounds' : List ℕ) (camera camera' : Camera) (seed seed' permille permille' cut cut' white white' : ℕ) (rule rule' : Rule) → scene ≡ scene' → lights ≡ lights' → picture ≡ picture' → bounds ≡ bounds' → camera ≡ camera' → seed ≡ seed' → permille ≡ permille' → cut ≡ cut' → white ≡ white' → rule ≡ rule'
    → ◌≡◌ {A = Job} (record { scene = scene; lights = lights; picture = picture; bounds = bounds; camera = camera; seed = seed; permille = permille; cut = cut; white = white; rule = rule }) (record { scene = scene'; lights = lights'; picture = picture'; bounds = bounds'; camera = camera'; seed = seed'; permille = permille'; cut = cut'; white = white'; rule = rule' })
same_job scene scene' lights lights' picture picture' bounds bounds' camera camera' seed seed' permille permille' cut cut' white white' rule rule' a b c d e f g h i j = cc

camera_is : (d : Draft) (job : Job) → Makes d job → job.camera ≡ camera d
camera_is d job h =
    let s = unwrapped d.size _ (record { width = 1; height = 1 }) h.size in
    same_camera _ _ _ _ _ _ _ _ _ _ _ _ _ _ (unwrapped d.eye job.camera.eye zero_vector h.eye) (unwrapped d.at job.camera.at zero_vector h.at) h.up h.view
    (ap (λ (x : Size). x.width) s) (ap (λ (x : Size). x.height) s) h.grid

pub job_is : (d : Draft) (job : Job) → Makes d job → job ≡ made d
unfolding made
job_is d job h =
    same_job _ _ _ _ _ _ _ _ _ _ _ _ _ _ _ _ _ _ _ _ (unwrapped d.scene job.scene [] h.scene) (unwrapped d.lights job.lights [] h.lights) (unwrapped d.picture job.picture [] h.picture) (unwrapped d.bounds job.bounds [] h.bounds)
    (camera_is d job h) h.seed h.permille h.cut h.white h.rule
