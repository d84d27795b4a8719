use Rattle.std.proofs.Common.{sym, ◌∙◌, arith}
use Rattle.lc_scan.proofs.LineLemmas.{empty_lines}
use Rattle.lc_scan.proofs.lines.Lines.next_line.Goals as goal

pub returns-then-is_empty : goal.returns-then-is_empty
returns-then-is_empty c =
    let e = sym c.self.view_is ∙ empty_lines c.self.inside.number c.self.inside.rest.now (grind arith) in
    (e, e)
