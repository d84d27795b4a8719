use Rattle.std.proofs.Common.{◌≡◌, ◌++◌, ◌∙◌, ap, subst, codes, decimal}
use Rattle.lc_tool.specs.Noted.{Noted}
use Rattle.lc_tool.proofs.note.note_long.Goals as goal

pub returns-clause-noted : goal.returns-clause-noted
returns-clause-noted g c =
    let front : c.append-2.new.text.bytes ≡ codes ": longer than " ++ decimal c.args.limit =
    c.append-2.ensures.bytes ∙ ap (λ b. b ++ c.format.result.now) (c.append.ensures.bytes ∙ ap (λ b. b ++ codes ": longer than ") c.new-rest.ensures) ∙ ap (λ w. codes ": longer than " ++ w) c.format.ensures.text in
    let rest : c.as_str.result.now ≡ codes ": longer than " ++ decimal c.args.limit ++ codes " bytes\n" =
    c.as_str.ensures.value ∙ c.append-3.ensures.bytes ∙ ap (λ b. b ++ codes " bytes\n") front in
    subst (λ l. Noted (c.args.name.now ++ l) (g.D.Desk.state c.args.desk.now) (g.D.Desk.state c.note.new.desk)) rest c.note.ensures.noted
