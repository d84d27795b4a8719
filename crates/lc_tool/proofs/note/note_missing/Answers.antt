use Rattle.std.proofs.Common.{◌≡◌, ◌++◌, ◌∙◌, ap, subst, codes}
use Rattle.lc_job.specs.Keys.{word}
use Rattle.lc_tool.specs.Noted.{Noted}
use Rattle.lc_tool.proofs.note.note_missing.Goals as goal

pub returns-clause-noted : goal.returns-clause-noted
returns-clause-noted g c =
    let front : c.append-2.new.text.bytes ≡ codes ": line 0: kind 5: " ++ word c.args.key =
    c.append-2.ensures.bytes ∙ ap (λ b. b ++ c.word.result.now) (c.append.ensures.bytes ∙ ap (λ b. b ++ codes ": line 0: kind 5: ") c.new-rest.ensures) ∙ ap (λ w. codes ": line 0: kind 5: " ++ w) c.word.ensures in
    let rest : c.as_str.result.now ≡ codes ": line 0: kind 5: " ++ word c.args.key ++ codes "\n" =
    c.as_str.ensures.value ∙ c.append-3.ensures.bytes ∙ ap (λ b. b ++ codes "\n") front in
    subst (λ l. Noted (c.args.name.now ++ l) (g.D.Desk.state c.args.desk.now) (g.D.Desk.state c.note.new.desk)) rest c.note.ensures.noted
