use Rattle.std.proofs.Common.{◌≡◌, ◌≤◌, sym, ◌∙◌, subst, ◌⊎◌, arith}
use Rattle.lc_tool.specs.Status.{code}
use Rattle.lc_tool.specs.declared.status.Stop.TheVariants.{Faulty, Absent, ReadFault, Long, Refuted}
use Rattle.lc_tool.specs.Words.{command_of, texts}
use Rattle.lc_tool.specs.Outcome.{course_of, status_of}
use Rattle.lc_tool.specs.Ends.{HasLine, Runs}
use Rattle.lc_tool.proofs.Running.{by_stop, by_done, by_silent, by_failed, by_memory, by_usage, code_most, run_line, run_unwritten, run_complete, run_steady, run_opens, faulty_more}
use Rattle.lc_tool.proofs.Proper.{command_proper}
use Rattle.lc_tool.proofs.Recording.{run_recorded}
use Rattle.lc_tool.proofs.PlainRuns.{run_plain, run_plain_part}
use Rattle.lc_tool.proofs.Auditing.{run_audit_keeps, run_audit_no, run_audit_own, run_audit_yes}
use Rattle.lc_tool.proofs.Making.{make_never, make_summary, make_summary_part}
use Rattle.lc_tool.proofs.Pictures.{run_counted, run_fractions, run_near, run_parts, run_picture, run_record, run_world}
use Rattle.lc_tool.proofs.Rendering.{run_report}
use Rattle.lc_tool.proofs.program.run.Goals as goal

pub returns-clause-recorded : goal.returns-clause-recorded
returns-clause-recorded g c = λ zero.
    run_recorded (command_of (texts c.args.words.now)) c.attempt.result (g.D.Desk.state c.args.desk.now) (g.D.Desk.state c.attempt.new.desk) c.args.steps.now c.attempt.new.steps
    (command_proper (texts c.args.words.now)) c.attempt.ensures.runs c.attempt.ensures.counted (sym c.code.ensures ∙ zero)

pub returns-clause-near : goal.returns-clause-near
returns-clause-near g c = λ zero world r. run_near (texts c.args.words.now) _ world r

pub returns-clause-fraction : goal.returns-clause-fraction
returns-clause-fraction g c = λ zero world r. run_fractions (texts c.args.words.now) _ world r

pub returns-clause-counted : goal.returns-clause-counted
returns-clause-counted g c = λ zero world r.
    run_counted (texts c.args.words.now) c.attempt.result _ world c.args.steps.now c.attempt.new.steps r c.attempt.ensures.counted (sym c.code.ensures ∙ zero)

pub returns-clause-record : goal.returns-clause-record
returns-clause-record g c = λ zero world r.
    run_record (texts c.args.words.now) c.attempt.result (g.D.Desk.state c.args.desk.now) (g.D.Desk.state c.attempt.new.desk) world r c.attempt.ensures.runs (sym c.code.ensures ∙ zero)

pub returns-clause-picture : goal.returns-clause-picture
returns-clause-picture g c = λ zero world r.
    run_picture (texts c.args.words.now) c.attempt.result (g.D.Desk.state c.args.desk.now) (g.D.Desk.state c.attempt.new.desk) world r c.attempt.ensures.runs (sym c.code.ensures ∙ zero)

pub returns-clause-world : goal.returns-clause-world
returns-clause-world g c = λ zero.
    run_world (command_of (texts c.args.words.now)) c.attempt.result (g.D.Desk.state c.args.desk.now) (g.D.Desk.state c.attempt.new.desk) c.attempt.ensures.runs (sym c.code.ensures ∙ zero)

pub returns-clause-plain : goal.returns-clause-plain
returns-clause-plain g c = λ zero world r.
    run_plain (texts c.args.words.now) c.attempt.result (g.D.Desk.state c.args.desk.now) (g.D.Desk.state c.attempt.new.desk) world r c.attempt.ensures.runs (sym c.code.ensures ∙ zero)

pub returns-clause-plain_part : goal.returns-clause-plain_part
returns-clause-plain_part g c = λ world r.
    run_plain_part (texts c.args.words.now) c.attempt.result (g.D.Desk.state c.args.desk.now) (g.D.Desk.state c.attempt.new.desk) world r c.attempt.ensures.runs

pub returns-clause-parts : goal.returns-clause-parts
returns-clause-parts g c = λ world r.
    run_parts (texts c.args.words.now) c.attempt.result (g.D.Desk.state c.args.desk.now) (g.D.Desk.state c.attempt.new.desk) world r c.attempt.ensures.runs

pub returns-clause-report : goal.returns-clause-report
returns-clause-report g c = λ world r.
    run_report (texts c.args.words.now) c.attempt.result (g.D.Desk.state c.args.desk.now) (g.D.Desk.state c.attempt.new.desk) world r c.attempt.ensures.runs

pub returns-clause-summary : goal.returns-clause-summary
returns-clause-summary g c = λ zero world m.
    make_summary (texts c.args.words.now) c.attempt.result (g.D.Desk.state c.args.desk.now) (g.D.Desk.state c.attempt.new.desk) world m c.attempt.ensures.runs (sym c.code.ensures ∙ zero)

pub returns-clause-summary_part : goal.returns-clause-summary_part
returns-clause-summary_part g c = λ world m.
    make_summary_part (texts c.args.words.now) c.attempt.result (g.D.Desk.state c.args.desk.now) (g.D.Desk.state c.attempt.new.desk) world m c.attempt.ensures.runs

pub returns-clause-made : goal.returns-clause-made
returns-clause-made g c = λ number is.
    let number_is : c.code.result ≡ code c.attempt.result = c.code.ensures in
    let held = (g.D.Desk.state c.args.desk.now).held in
    let runs = subst (λ o. Runs o c.attempt.result (course_of o held) (g.D.Desk.state c.args.desk.now) (g.D.Desk.state c.attempt.new.desk)) is c.attempt.ensures.runs in
    subst (λ n. ¬ (n ≡ 7) × ¬ (n ≡ 8) × ¬ (n ≡ 10)) (sym number_is)
    (make_never number c.attempt.result held (g.D.Desk.state c.args.desk.now) (g.D.Desk.state c.attempt.new.desk) runs)

pub returns-clause-audit_yes : goal.returns-clause-audit_yes
returns-clause-audit_yes g c = λ zero world text a.
    run_audit_yes (texts c.args.words.now) c.attempt.result (g.D.Desk.state c.args.desk.now) (g.D.Desk.state c.attempt.new.desk) world text a
    c.attempt.ensures.runs (sym c.code.ensures ∙ zero)

pub returns-clause-audit_no : goal.returns-clause-audit_no
returns-clause-audit_no g c = λ eleven world text a.
    run_audit_no (texts c.args.words.now) c.attempt.result (g.D.Desk.state c.args.desk.now) (g.D.Desk.state c.attempt.new.desk) world text a
    c.attempt.ensures.runs (sym c.code.ensures ∙ eleven)

pub returns-clause-audit_own : goal.returns-clause-audit_own
returns-clause-audit_own g c = λ world text a own faultless.
    subst (λ n. (n ≡ 0) ⊎ (n ≡ 1)) (sym c.code.ensures)
    (run_audit_own (texts c.args.words.now) c.attempt.result (g.D.Desk.state c.args.desk.now) (g.D.Desk.state c.attempt.new.desk) world text a
    own faultless c.attempt.ensures.runs)

pub returns-clause-audit_keeps : goal.returns-clause-audit_keeps
returns-clause-audit_keeps g c = λ name step is.
    run_audit_keeps (texts c.args.words.now) c.attempt.result (g.D.Desk.state c.args.desk.now) (g.D.Desk.state c.attempt.new.desk) name step is
    c.attempt.ensures.runs

pub returns-clause-opens : goal.returns-clause-opens
returns-clause-opens g c = run_opens _ c.attempt.result _ _ _ c.attempt.ensures.runs

pub returns-clause-done : goal.returns-clause-done
returns-clause-done g c = λ e. by_done _ c.attempt.result _ _ _ c.attempt.ensures.runs (sym c.code.ensures ∙ e)

pub returns-clause-silent : goal.returns-clause-silent
returns-clause-silent g c = λ e. by_silent _ c.attempt.result _ _ _ c.attempt.ensures.runs (sym c.code.ensures ∙ e)

pub returns-clause-usage : goal.returns-clause-usage
returns-clause-usage g c =
    let both = by_usage _ c.attempt.result _ _ _ c.attempt.ensures.runs in
    (λ e. both.0 (sym c.code.ensures ∙ e), λ none. c.code.ensures ∙ both.1 none)

pub returns-clause-faulty : goal.returns-clause-faulty
returns-clause-faulty g c = λ text e. by_stop _ c.attempt.result (Faulty text) _ _ _ c.attempt.ensures.runs (faulty_more text) (sym c.code.ensures ∙ e)

pub returns-clause-absent : goal.returns-clause-absent
returns-clause-absent g c = λ e. by_stop _ c.attempt.result Absent _ _ _ c.attempt.ensures.runs (omega arith) (sym c.code.ensures ∙ e)

pub returns-clause-read_fault : goal.returns-clause-read_fault
returns-clause-read_fault g c = λ e. by_stop _ c.attempt.result ReadFault _ _ _ c.attempt.ensures.runs (omega arith) (sym c.code.ensures ∙ e)

pub returns-clause-long : goal.returns-clause-long
returns-clause-long g c = λ e. by_stop _ c.attempt.result Long _ _ _ c.attempt.ensures.runs (omega arith) (sym c.code.ensures ∙ e)

pub returns-clause-refuted : goal.returns-clause-refuted
returns-clause-refuted g c = λ e. by_stop _ c.attempt.result Refuted _ _ _ c.attempt.ensures.runs (omega arith) (sym c.code.ensures ∙ e)

pub returns-clause-write_fault : goal.returns-clause-write_fault
returns-clause-write_fault g c = λ e. by_failed _ c.attempt.result _ _ _ c.attempt.ensures.runs (sym c.code.ensures ∙ e)

pub returns-clause-memory : goal.returns-clause-memory
returns-clause-memory g c = λ e. by_memory _ c.attempt.result _ _ _ c.attempt.ensures.runs (sym c.code.ensures ∙ e)

pub returns-clause-only : goal.returns-clause-only
returns-clause-only g c = subst (λ n. n ≤ 12) (sym c.code.ensures) (code_most c.attempt.result)

pub returns-clause-noted : goal.returns-clause-noted
returns-clause-noted g c = λ other.
    let number : c.code.result ≡ code c.attempt.result = c.code.ensures in
    subst (λ n. HasLine n (g.D.Desk.state c.args.desk.now) (g.D.Desk.state c.attempt.new.desk)) (sym number)
    (run_line _ c.attempt.result _ _ _ c.attempt.ensures.runs (subst (λ n. ¬ (n ≡ 0)) number other))

pub returns-clause-unwritten : goal.returns-clause-unwritten
returns-clause-unwritten g c = λ zero one nine.
    let number : c.code.result ≡ code c.attempt.result = c.code.ensures in
    run_unwritten _ c.attempt.result _ _ _ c.attempt.ensures.runs (subst (λ n. ¬ (n ≡ 0)) number zero) (subst (λ n. ¬ (n ≡ 1)) number one) (subst (λ n. ¬ (n ≡ 9)) number nine)

pub returns-clause-complete : goal.returns-clause-complete
returns-clause-complete g c = λ course told faultless.
    subst (λ n. (n ≡ status_of course.end) ⊎ (n ≡ 1)) (sym c.code.ensures)
    (run_complete (command_of (texts c.args.words.now)) c.attempt.result _ _ _ c.attempt.ensures.runs course told faultless)

pub returns-clause-steady : goal.returns-clause-steady
returns-clause-steady g c = λ steady none.
    let number : c.code.result ≡ code c.attempt.result = c.code.ensures in
    subst (λ n. ¬ (n ≡ 8) × ¬ (n ≡ 9)) (sym number) (run_steady _ c.attempt.result _ _ _ c.attempt.ensures.runs steady none)
