use Rattle.std.proofs.Common.{ℕ, Some, None, sym, ap, ◌∙◌, subst}
use Rattle.std.proofs.lemmas.Result.{err_from_is_err_and}
use Rattle.lc_job.specs.Drafts.{made}
use Rattle.lc_job.specs.Jobs.{IsJob}
use Rattle.lc_job.specs.declared.stop.JobStop.TheVariants as stop
use Rattle.lc_job.proofs.StopLemmas.{line_first, missing_first, whole_last}
use Rattle.lc_job.proofs.ValidJobs.{job_valid}
use Rattle.lc_job.proofs.reader.read_job.Goals as goal

pub returns-in_err-draft-clause-fault : goal.returns-in_err-draft-clause-fault
returns-in_err-draft-clause-fault c =
    let p = err_from_is_err_and c.from_residual.result c.from_residual.ensures.1 in
    rw (p.1, p.2) (line_first c.args.bytes.now _ c.in_err-draft.ensures.fault).0

pub test_whole-requires : goal.test_whole-requires
test_whole-requires c =
    let read = c.in_ok-draft.ensures.ok in
    subst IsJob (sym (c.in-Ok.ensures.1 ∙ ap made read.1)) (job_valid c.args.bytes.now read.0)

pub returns-in-Err-clause-missing : goal.returns-in-Err-clause-missing
returns-in-Err-clause-missing c =
    let read = c.in_ok-draft.ensures.ok in
    missing_first c.args.bytes.now c.in_ok-draft.draft c.in-Err.key read.0 read.1 c.in-Err.ensures

pub returns-in-Err-test_whole-clause-fault : goal.returns-in-Err-test_whole-clause-fault
returns-in-Err-test_whole-clause-fault c =
    let read = c.in_ok-draft.ensures.ok in
    whole_last c.args.bytes.now c.in_ok-draft.draft c.in-Ok.job (Some c.in-Err-test_whole.kind) read.0 read.1 c.in-Ok.ensures.0 c.in-Ok.ensures.1 c.in-Err-test_whole.ensures
    ∙ ap (λ (n : ℕ). Some (stop.Fault 0 n)) (sym c.number.ensures)

pub returns-in-Ok-test_whole-clause-ok : goal.returns-in-Ok-test_whole-clause-ok
returns-in-Ok-test_whole-clause-ok c =
    let read = c.in_ok-draft.ensures.ok in (
      whole_last c.args.bytes.now c.in_ok-draft.draft c.in-Ok.job None read.0 read.1 c.in-Ok.ensures.0 c.in-Ok.ensures.1 c.in-Ok-test_whole.ensures,
      c.in-Ok.ensures.1 ∙ ap made read.1,
    )

pub returns-in-Ok-test_whole-clause-valid : goal.returns-in-Ok-test_whole-clause-valid
returns-in-Ok-test_whole-clause-valid c =
    let read = c.in_ok-draft.ensures.ok in
    subst IsJob (sym (c.in-Ok.ensures.1 ∙ ap made read.1)) (job_valid c.args.bytes.now read.0)
