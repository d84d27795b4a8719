use Rattle.std.proofs.Common.{◌≡◌, ◌++◌, subst, codes, rules}
use Rattle.lc_tool.specs.Lines.{miss_words}
use Rattle.lc_tool.specs.Noted.{Noted}
use Rattle.lc_tool.proofs.note.note_miss.Goals as goal

pub returns-clause-noted : goal.returns-clause-noted
unfolding miss_words
returns-clause-noted g c =
    let rest : c.as_str.result.now ≡ miss_words c.args.miss.now = search rules in
    subst (λ l. Noted (codes "audit:" ++ l) (g.D.Desk.state c.args.desk.now) (g.D.Desk.state c.note.new.desk)) rest c.note.ensures.noted
