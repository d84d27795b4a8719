use Rattle.std.proofs.Common.{◌≡◌, ◌∙◌, sym, refl}
use denote.Enum.Bare.{sameb, true_same}
use Rattle.lc_num.specs.contracts.rules.Rule.{the_type}
use Rattle.lc_frame.specs.Frames.{header_of}
use Rattle.lc_tool.specs.declared.status.Source.TheVariants.{Record}
use Rattle.lc_tool.specs.Lines.{fault_line}
use Rattle.lc_tool.specs.Outcome.{other_header, same_header}
use Rattle.lc_tool.proofs.Parsing.{parse_faulty}
use Rattle.lc_tool.proofs.Records.{never_other, other_is}
use Rattle.lc_tool.proofs.audit.compare_header.Goals as goal

pub returns-clause-stopped : goal.returns-clause-stopped
returns-clause-stopped g c =
    let name = c.args.name.now in
    let made = c.header_of.result in
    let other : c.args.kept.header ≡ header_of c.args.job.now → ⊥ = λ e.
    let same : c.args.kept.header ≡ made = e ∙ sym c.header_of.ensures in
    never_other (sameb the_type made.rule made.rule) made.width made.height made.grid made.cut made.permille (true_same the_type made.rule made.rule refl)
    (rw same at c.if-eq.ensures) in
    parse_faulty Record (fault_line name 1 other_header) (same_header name c.args.job.now c.args.kept) _ _ (name, 1, other_header, refl)
    (other_is name c.args.job.now c.args.kept c.requires.job c.requires.kept other) c.note_fault.ensures.noted c.note_fault.ensures.asked
