-- Jobs within their ranges, and the tests of a job as a whole.
use Rattle.std.specs.Prelude.{Bool, not, ◌≤◌, ◌||◌, nat_lt, List, [], ◌∷◌, Option}
use Rattle.std.specs.Str.{bytes_eq}
use Rattle.lc_num.specs.Vectors.{cross, difference, square}
use Rattle.lc_scan.specs.LineTests.{unless}
use Rattle.lc_view.specs.Camera.{IsCamera}
use Rattle.lc_view.specs.declared.camera.Camera.{Camera}
use Rattle.lc_job.specs.declared.job.Job.{Job}
use Rattle.lc_job.specs.declared.fault_kind.FaultKind.{FaultKind}
use Rattle.lc_job.specs.declared.fault_kind.FaultKind.TheVariants as kind

pub record IsJob (job : Job) : Type 0 where
  pub camera : IsCamera job.camera
  pub permille : job.permille ≤ 1000
  pub cut_some : 3 ≤ job.cut
  pub cut_most : job.cut ≤ 65_536
  pub white_some : 1 ≤ job.white
  pub white_most : job.white ≤ 100_000_000

-- (at - eye) x up is not zero
abbrev pub looks : Camera → Bool
looks camera = nat_lt 0 (square (cross (difference camera.at camera.eye) camera.up))

-- two of the four names are equal
abbrev pub has_twins : Job → Bool
has_twins job =
    bytes_eq job.scene job.lights || bytes_eq job.scene job.picture || bytes_eq job.scene job.bounds
    || bytes_eq job.lights job.picture || bytes_eq job.lights job.bounds || bytes_eq job.picture job.bounds

-- the tests of a job as a whole, in their order
abbrev pub job_tests : Job → List (Option FaultKind)
job_tests job = unless (looks job.camera) kind.NoView ∷ unless (not (has_twins job)) kind.SameNames ∷ []
