-- What the lines of a job say, by their keywords.
use Rattle.std.specs.Prelude.{Bool, not, [], Option, Some, None, is_some, find, unwrap_or, pos}
use Rattle.lc_num.specs.Vectors.{zero_vector}
use Rattle.lc_num.specs.declared.rules.Rule.TheVariants as rule
use Rattle.lc_view.specs.declared.camera.Camera.{Camera}
use Rattle.lc_job.specs.Keys.{required}
use Rattle.lc_job.specs.declared.draft.Draft.{Draft}
use Rattle.lc_job.specs.declared.entry.Entry.{Entry}
use Rattle.lc_job.specs.declared.entry.Entry.TheVariants as entry
use Rattle.lc_job.specs.declared.job.Job.{Job}
use Rattle.lc_job.specs.declared.key.Key.{Key}
use Rattle.lc_job.specs.declared.key.Key.TheVariants as key

-- a keyword of which nothing was said takes its default; of a required one that is missing any value stands
abbrev pub camera : Draft → Camera
camera d =
    let s = unwrap_or d.size (record { width = 1; height = 1 }) in
    record {
      eye = unwrap_or d.eye zero_vector;
      at = unwrap_or d.at zero_vector;
      up = unwrap_or d.up (record { x = pos 0; y = pos 10000; z = pos 0 });
      view = unwrap_or d.view 5000;
      width = s.width;
      height = s.height;
      grid = unwrap_or d.grid 1;
    }

unfoldable pub made : Draft → Job
made d = record {
  scene = unwrap_or d.scene [];
  lights = unwrap_or d.lights [];
  picture = unwrap_or d.picture [];
  bounds = unwrap_or d.bounds [];
  camera = camera d;
  seed = unwrap_or d.seed 0;
  permille = unwrap_or d.error 20;
  cut = unwrap_or d.cut 1000;
  white = unwrap_or d.white 10000;
  rule = unwrap_or d.rule rule.One;
}

-- ---- clauses of private functions alone speak of the following

abbrev pub nothing_said : Draft
nothing_said = record {
  scene = None;
  lights = None;
  picture = None;
  bounds = None;
  eye = None;
  at = None;
  size = None;
  up = None;
  view = None;
  grid = None;
  seed = None;
  error = None;
  cut = None;
  white = None;
  rule = None;
}

-- something was said by a keyword
abbrev pub has : Key → Draft → Bool
has key.Scene d = is_some d.scene
has key.Lights d = is_some d.lights
has key.Picture d = is_some d.picture
has key.Bounds d = is_some d.bounds
has key.Eye d = is_some d.eye
has key.At d = is_some d.at
has key.Size d = is_some d.size
has key.Up d = is_some d.up
has key.View d = is_some d.view
has key.Grid d = is_some d.grid
has key.Seed d = is_some d.seed
has key.Error d = is_some d.error
has key.Cut d = is_some d.cut
has key.White d = is_some d.white
has key.Rule d = is_some d.rule

unfoldable pub missing_in : Draft → Option Key
missing_in d = find (λ k. not (has k d)) required

-- with what one more line says
abbrev pub taken : Entry → Draft → Draft
taken (entry.Scene name) d = record d { scene = Some name }
taken (entry.Lights name) d = record d { lights = Some name }
taken (entry.Picture name) d = record d { picture = Some name }
taken (entry.Bounds name) d = record d { bounds = Some name }
taken (entry.Eye place) d = record d { eye = Some place }
taken (entry.At place) d = record d { at = Some place }
taken (entry.Size s) d = record d { size = Some s }
taken (entry.Up direction) d = record d { up = Some direction }
taken (entry.View units) d = record d { view = Some units }
taken (entry.Grid side) d = record d { grid = Some side }
taken (entry.Seed n) d = record d { seed = Some n }
taken (entry.Error n) d = record d { error = Some n }
taken (entry.Cut most) d = record d { cut = Some most }
taken (entry.White units) d = record d { white = Some units }
taken (entry.Rule r) d = record d { rule = Some r }
