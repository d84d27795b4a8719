use Rattle.std.proofs.Common.{subst}
use Rattle.lc_tool.specs.Words.{texts}
use Rattle.lc_tool.specs.declared.status.Status.{Status}
use Rattle.lc_map.specs.Outcome.{outcome}
use Rattle.lc_map.specs.Runs.{Runs}
use Rattle.lc_map.specs.Words.{order_of}
use Rattle.lc_map.proofs.Running.{run_broken, run_complete, run_done, run_line, run_opens, run_others, run_part, run_picture, run_record, run_silent, run_steady, run_stopped, run_usage, same_outputs, write_failed}
use Rattle.lc_map.proofs.program.run.Goals as goal

pub returns-clause-record : goal.returns-clause-record
returns-clause-record g c = λ done order is. run_record (texts c.args.words.now) _ _ order c.attempt.result c.attempt.ensures done is

pub returns-clause-picture : goal.returns-clause-picture
returns-clause-picture g c = λ done order kept is. run_picture (texts c.args.words.now) _ _ order kept is c.attempt.result c.attempt.ensures done

pub returns-clause-part : goal.returns-clause-part
returns-clause-part g c = λ order kept is. run_part (texts c.args.words.now) _ _ order kept is c.attempt.result c.attempt.ensures

pub returns-clause-others : goal.returns-clause-others
returns-clause-others g c = run_others (order_of (texts c.args.words.now)) c.attempt.result _ _ _ c.attempt.ensures

pub returns-clause-opens : goal.returns-clause-opens
returns-clause-opens g c = run_opens (order_of (texts c.args.words.now)) c.attempt.result _ _ _ c.attempt.ensures

pub returns-clause-done : goal.returns-clause-done
returns-clause-done g c = λ done. run_done (order_of (texts c.args.words.now)) c.attempt.result _ _ _ c.attempt.ensures done

pub returns-clause-silent : goal.returns-clause-silent
returns-clause-silent g c = λ done. run_silent (order_of (texts c.args.words.now)) c.attempt.result _ _ _ c.attempt.ensures done

pub returns-clause-usage : goal.returns-clause-usage
returns-clause-usage g c = run_usage (order_of (texts c.args.words.now)) c.attempt.result _ _ _ c.attempt.ensures

pub returns-clause-stopped : goal.returns-clause-stopped
returns-clause-stopped g c = λ stop e. run_stopped (order_of (texts c.args.words.now)) c.attempt.result _ _ _ c.attempt.ensures stop e

pub returns-clause-unwritten : goal.returns-clause-unwritten
returns-clause-unwritten g c = λ stop e. run_broken (order_of (texts c.args.words.now)) c.attempt.result _ _ _ c.attempt.ensures stop e

pub returns-clause-write_fault : goal.returns-clause-write_fault
returns-clause-write_fault g c = λ slot e.
    let before = g.D.Desk.state c.args.desk.now in
    let now = g.D.Desk.state c.attempt.new.desk in
    write_failed (order_of (texts c.args.words.now)) slot (outcome (texts c.args.words.now) before.held) before now
    (subst (λ (s : Status). Runs (order_of (texts c.args.words.now)) s (outcome (texts c.args.words.now) before.held) before now) e c.attempt.ensures)

pub returns-clause-noted : goal.returns-clause-noted
returns-clause-noted g c = λ other. run_line (order_of (texts c.args.words.now)) c.attempt.result _ _ _ c.attempt.ensures other

pub returns-clause-unbegun : goal.returns-clause-unbegun
returns-clause-unbegun g c = λ stop e.
    let h = run_stopped (order_of (texts c.args.words.now)) c.attempt.result _ _ _ c.attempt.ensures stop e in
    same_outputs h.line _ _ h.noted

pub returns-clause-complete : goal.returns-clause-complete
returns-clause-complete g c = λ course told none. run_complete (order_of (texts c.args.words.now)) c.attempt.result _ _ _ c.attempt.ensures course told none

pub returns-clause-steady : goal.returns-clause-steady
returns-clause-steady g c = λ steady none. run_steady (order_of (texts c.args.words.now)) c.attempt.result _ _ _ c.attempt.ensures steady none
