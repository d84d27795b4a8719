use Rattle.lc_job.specs.declared.job.Job.{Job}
use Rattle.lc_record.specs.declared.reader.Record.{Record}
use Rattle.lc_tool.specs.Course.{Course}
use Rattle.lc_tool.specs.Outcome.{kept_of, record_of, same_header}
use Rattle.lc_tool.proofs.Parsing.{stopped_parsed}
use Rattle.lc_tool.proofs.audit.read_kept.Goals as goal

abbrev next : Job → Record → Course Record
next job kept = same_header job.bounds job kept

pub returns-clause-stopped : goal.returns-clause-stopped
unfolding record_of
returns-clause-stopped g c =
    let job = c.args.job.now in
    stopped_parsed (kept_of job.bounds) (next job) c.in_ok-kept.kept _ _ _ (rw c.as_str.ensures at c.in_ok-kept.ensures.went) c.compare_header.result
    (rw c.as_str-2.ensures at c.compare_header.ensures.stopped)
