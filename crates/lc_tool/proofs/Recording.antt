-- What is recorded where a probe is done.
use Rattle.std.proofs.Common.{◌≡◌, ℕ, ◌+◌, arith, List, refl, sym, ◌∙◌, ap, Option, Some, None, IfSome, IfOk, Ok}
use Rattle.lc_num.specs.declared.vectors.Vec3.{Vec3}
use Rattle.lc_num.specs.Vectors.{Within}
use Rattle.lc_num.proofs.ScaledLemmas.{scaled_within}
use Rattle.lc_desk.specs.Calls.{after_calls}
use Rattle.lc_desk.specs.Desk.{DeskState, Files}
use Rattle.lc_light.specs.LightFile.{lights}
use Rattle.lc_light.specs.Lights.{AreLights}
use Rattle.lc_light.proofs.ValidLights.{lights_valid}
use Rattle.lc_terms.specs.Spot.{IsSpot}
use Rattle.lc_terms.specs.declared.spot.Spot.{Spot}
use Rattle.lc_rated.proofs.CutSequence.{fraction, size_most, evals_most}
use Rattle.lc_cut.specs.Forest.{ForestParts, forest_of, trees_of}
use Rattle.lc_cut.proofs.Building.{forest_of_is}
use Rattle.lc_cut.proofs.Whole.{answer_near}
use Rattle.lc_tool.specs.declared.status.Status.{Status}
use Rattle.lc_tool.specs.Course.{Course, at_once, told}
use Rattle.lc_tool.specs.Words.{Command, probe, render, plain, audit, make}
use Rattle.lc_tool.specs.Work.{Work}
use Rattle.lc_tool.specs.Outcome.{probe_scene, lights_of, probe_size, probe_permille, probe_rule, probe_spot, probe_answer, probe_work, probe_course, course_of}
use Rattle.lc_tool.specs.Probed.{ProbeRecorded, Recorded}
use Rattle.lc_tool.specs.Status.{code}
use Rattle.lc_tool.specs.Stopped.{Gave}
use Rattle.lc_tool.specs.Ends.{Runs, Counts}
use Rattle.lc_tool.proofs.Proper.{IsProper}
use Rattle.lc_tool.proofs.Running.{by_done, is_done, some_told}
use Rattle.lc_tool.proofs.Through.{went_through, ok_same, if_ok, told_files, lights_given}

spot_valid : (place direction : Vec3) → Within 50_000_000 place → IsSpot (probe_spot place direction)
spot_valid place direction h = record {
  x = record { x = omega (arith, h.x); y = omega (arith, h.y); z = omega (arith, h.z) };
  n = scaled_within direction 16384;
  r = record { x = omega arith; y = omega arith; z = omega arith };
  kd = record { r = omega arith; g = omega arith; b = omega arith };
  ks = record { r = omega arith; g = omega arith; b = omega arith };
  ns = omega arith;
}

probe_recorded : (name : List ℕ) (place direction : Vec3) (files : Files) (before now : DeskState) (steps_before steps_now : ℕ) (work : Work)
    → Within 50_000_000 place → (probe_course name place direction files).end ≡ Ok work → now.slots ≡ after_calls work.calls before.slots → steps_now ≡ steps_before + work.evals
    → ProbeRecorded name place direction files before now steps_before steps_now
unfolding probe_answer
probe_recorded name place direction files before now steps_before steps_now work at e slots counted =
    let went = went_through (lights_of name 0 files) (λ lights. at_once (Ok (probe_work (probe_answer place direction lights)))) work e in
    let given = lights_given name 0 files went.value went.stepped in
    let is : work ≡ probe_work (probe_answer place direction (lights given.text 0)) = sym (ok_same _ _ went.went) ∙ ap (λ l. probe_work (probe_answer place direction l)) (sym given.same) in
    let spot : Spot = probe_spot place direction in
    let forest : ForestParts = forest_of 0 (lights given.text 0) in
    let valid : AreLights (lights given.text 0) = lights_valid given.text 0 given.right in
    record {
      text = given.text;
      read = given.read;
      right = given.right;
      answer = probe_answer place direction (lights given.text 0);
      recorded = slots ∙ ap (λ (w : Work). after_calls w.calls before.slots) is;
      cut = refl;
      near = answer_near probe_scene spot (spot_valid place direction at) probe_rule forest (forest_of_is 0 (lights given.text 0) valid) probe_size probe_permille;
      fraction = fraction probe_size probe_permille (trees_of probe_scene spot probe_rule forest) (omega arith);
      size = size_most probe_size probe_permille (trees_of probe_scene spot probe_rule forest) (omega arith);
      evals = evals_most probe_size probe_permille (trees_of probe_scene spot probe_rule forest) (omega arith);
      each = refl;
      counted = counted ∙ ap (λ (w : Work). steps_before + w.evals) is;
    }

some_both : {A : Type 0} (o : Option A) (P Q R : A → Type 0) → ((a : A) → P a → Q a → R a) → IfSome o P → IfSome o Q → IfSome o R
some_both None P Q R f p q = tt
some_both (Some a) P Q R f p q = f a p q

-- where a probe is done, its record stands
done_recorded : (name : List ℕ) (place direction : Vec3) (status : Status) (before now : DeskState) (steps_before steps_now : ℕ) → Within 50_000_000 place
    → Runs (Some (probe name place direction)) status (told (probe_course name place direction) before.held) before now
    → Counts status (told (probe_course name place direction) before.held) steps_before steps_now → code status ≡ 0
    → IfSome before.held (λ files. ProbeRecorded name place direction files before now steps_before steps_now)
done_recorded name place direction status before now steps_before steps_now at runs counts zero =
    let course : Files → Course Work = probe_course name place direction in
    let f = by_done (Some (probe name place direction)) status (told course before.held) before now runs zero in
    let slots : now.slots ≡ after_calls f.work.calls before.slots = f.made.slots ∙ ap (after_calls f.work.calls) f.began.reads.slots in
    some_both before.held (λ files. Gave f.work before f.start (course files)) (λ files. IfOk (course files).end (λ w. steps_now ≡ steps_before + w.evals)) _
    (λ files gave counted. probe_recorded name place direction files before now steps_before steps_now f.work at gave.end slots
    (if_ok (course files).end f.work (λ w. steps_now ≡ steps_before + w.evals) gave.end counted))
    (told_files course before.held (Gave f.work before f.start) f.began.told)
    (told_files course before.held (λ c. IfOk c.end (λ w. steps_now ≡ steps_before + w.evals)) (counts (is_done status zero)))

-- where a run is done, its record stands
pub run_recorded : (command : Option Command) (status : Status) (before now : DeskState) (steps_before steps_now : ℕ) → IsProper command → Runs command status (course_of command before.held) before now
    → Counts status (course_of command before.held) steps_before steps_now → code status ≡ 0
    → IfSome before.held (λ files. Recorded command files before now steps_before steps_now)
run_recorded None status before now steps_before steps_now proper runs counts zero = some_told before.held _ (λ files. tt)
run_recorded (Some (probe name place direction)) status before now steps_before steps_now proper runs counts zero =
    done_recorded name place direction status before now steps_before steps_now proper.0 runs counts zero
run_recorded (Some (render name)) status before now steps_before steps_now proper runs counts zero = some_told before.held _ (λ files. tt)
run_recorded (Some (plain name)) status before now steps_before steps_now proper runs counts zero = some_told before.held _ (λ files. tt)
run_recorded (Some (audit name step)) status before now steps_before steps_now proper runs counts zero = some_told before.held _ (λ files. tt)
run_recorded (Some (make number)) status before now steps_before steps_now proper runs counts zero = some_told before.held _ (λ files. tt)
