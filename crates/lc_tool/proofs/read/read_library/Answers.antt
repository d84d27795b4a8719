use Rattle.std.proofs.Common.{◌≡◌, rules}
use Rattle.lc_tool.specs.Lines.{file_limit}
use Rattle.lc_tool.specs.Outcome.{library_text, text_of}
use Rattle.lc_tool.proofs.Parsing.{left_parsed, stopped_parsed}
use Rattle.lc_tool.proofs.read.read_library.Goals as goal

pub returns-clause-went : goal.returns-clause-went
returns-clause-went g c =
    let text : c.deref.result.now ≡ c.in_ok-text.text.items = search rules in
    left_parsed (text_of file_limit c.args.name.now) (library_text c.args.materials.now.items c.args.name.now) c.in_ok-text.text.items _ _ _ c.in_ok-text.ensures.went c.parse_library.result c.parse_library.new.materials.items (rw text at c.parse_library.ensures.went)

pub returns-clause-stopped : goal.returns-clause-stopped
returns-clause-stopped g c =
    let text : c.deref.result.now ≡ c.in_ok-text.text.items = search rules in
    stopped_parsed (text_of file_limit c.args.name.now) (library_text c.args.materials.now.items c.args.name.now) c.in_ok-text.text.items _ _ _ c.in_ok-text.ensures.went c.parse_library.result (rw text at c.parse_library.ensures.stopped)
