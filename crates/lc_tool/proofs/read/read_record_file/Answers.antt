use Rattle.std.proofs.Common.{◌≡◌, rules}
use Rattle.lc_tool.specs.Lines.{record_limit}
use Rattle.lc_tool.specs.Outcome.{kept_text, text_of}
use Rattle.lc_tool.proofs.Parsing.{stopped_parsed, went_parsed}
use Rattle.lc_tool.proofs.read.read_record_file.Goals as goal

pub returns-clause-went : goal.returns-clause-went
returns-clause-went g c =
    let text : c.deref.result.now ≡ c.in_ok-text.text.items = search rules in
    went_parsed (text_of record_limit c.args.name.now) (kept_text c.args.name.now) c.in_ok-text.text.items _ _ _ c.in_ok-text.ensures.went c.parse_record.result (rw text at c.parse_record.ensures.went)

pub returns-clause-stopped : goal.returns-clause-stopped
returns-clause-stopped g c =
    let text : c.deref.result.now ≡ c.in_ok-text.text.items = search rules in
    stopped_parsed (text_of record_limit c.args.name.now) (kept_text c.args.name.now) c.in_ok-text.text.items _ _ _ c.in_ok-text.ensures.went c.parse_record.result (rw text at c.parse_record.ensures.stopped)
