use Rattle.std.proofs.Common.{◌≡◌, ◌∙◌, ap, sym, Some, None, arith, lit<, suc, ◌+◌, ◌-◌, take}
use Rattle.std.proofs.lemmas.Str.Pattern.{rfind_char}
use Rattle.lc_tool.proofs.NameLemmas.{folder_by}
use Rattle.lc_tool.proofs.names.folder_of.Goals as goal

pub returns-in-None : goal.returns-in-None
returns-in-None c = sym (folder_by c.args.name.now None (rfind_char 47 c.args.name.now None c.in-None.ensures.cases (lit< tt)))

pub returns-in-Some : goal.returns-in-Some
returns-in-Some c =
    let n : (c.in-Some.at + 1) - 0 ≡ suc c.in-Some.at = omega arith in
    c.range.ensures.value ∙ ap (λ m. take m c.args.name.now) n
    ∙ sym (folder_by c.args.name.now (Some c.in-Some.at) (rfind_char 47 c.args.name.now (Some c.in-Some.at) c.in-Some.ensures.cases (lit< tt)))
