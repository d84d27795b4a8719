use Rattle.std.proofs.Common.{◌≡◌, rules}
use Rattle.lc_tool.specs.Summaries.{summary_bytes}
use Rattle.lc_tool.proofs.summary.put_summary.Goals as goal

pub returns-clause-broke : goal.returns-clause-broke
unfolding summary_bytes
returns-clause-broke g c =
    let line : c.as_bytes.result.now ≡ summary_bytes c.args.number c.args.summary.now = search rules in
    rw line at c.put_report.ensures.broke
