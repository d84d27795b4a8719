-- A probe that is done counts the evaluations of its answer.
use Rattle.std.proofs.Common.{◌≡◌, ℕ, ◌+◌, List, Option, Some, None, IfSome, IfOk, Result, Ok, sym, ap, subst, ◌∙◌}
use Rattle.lc_num.specs.declared.vectors.Vec3.{Vec3}
use Rattle.lc_desk.specs.Desk.{DeskState, Files}
use Rattle.lc_light.specs.declared.lights.Lights.{Lights}
use Rattle.lc_rated.specs.declared.answer.Answer.{Answer}
use Rattle.lc_tool.specs.declared.status.Status.{Status}
use Rattle.lc_tool.specs.Course.{Course, Refusal, goes_on, at_once, told}
use Rattle.lc_tool.specs.Work.{Work}
use Rattle.lc_tool.specs.Outcome.{lights_of, probe_answer, probe_work, probe_course}
use Rattle.lc_tool.specs.Stopped.{Gave}
use Rattle.lc_tool.specs.Ends.{Counts}

counted_in : (held : Option Files) (name : List ℕ) (place direction : Vec3) (lights : Lights) (before mid : DeskState) (steps_before steps_now : ℕ) → IfSome (told (lights_of name 0) held) (Gave lights before mid) → steps_now ≡ steps_before + (probe_answer place direction lights).evals → IfSome (told (probe_course name place direction) held) (λ c. IfOk c.end (λ w. steps_now ≡ steps_before + w.evals))
counted_in None name place direction lights before mid steps_before steps_now read counted = tt
counted_in (Some files) name place direction lights before mid steps_before steps_now read counted =
    let next : Lights → Course Work = λ l. at_once (Ok (probe_work (probe_answer place direction l))) in
    let P : Result Lights Refusal → Type 0 = λ end. IfOk (goes_on (lights_of name 0 files).reads end next).end (λ w. steps_now ≡ steps_before + w.evals) in
    subst P (sym read.end) counted

pub probe_counts : (status : Status) (held : Option Files) (name : List ℕ) (place direction : Vec3) (lights : Lights) (answer : Answer) (before mid : DeskState) (steps_before steps_now : ℕ) → IfSome (told (lights_of name 0) held) (Gave lights before mid) → answer ≡ probe_answer place direction lights → steps_now ≡ steps_before + answer.evals → Counts status (told (probe_course name place direction) held) steps_before steps_now
probe_counts status held name place direction lights answer before mid steps_before steps_now read is counted =
    λ done. counted_in held name place direction lights before mid steps_before steps_now read (counted ∙ ap (λ (a : Answer). steps_before + a.evals) is)
