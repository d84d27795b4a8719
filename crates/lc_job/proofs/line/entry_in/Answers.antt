use Rattle.std.proofs.Common.{sym, ◌∙◌}
use Rattle.lc_job.specs.Drafts.{has}
use Rattle.lc_job.proofs.LineLemmas.{HasKey, line_by_values, no_keyword, repeated}
use Rattle.lc_job.proofs.line.entry_in.Goals as goal

pub returns-in_default : goal.returns-in_default
returns-in_default c =
    no_keyword (λ k. has k c.args.before.now) c.args.line.now c.take_field.result.now c.take_field.new.self (sym c.new-values.ensures.value ∙ c.take_field.ensures) (sym c.in_default.ensures)

pub returns-then-has : goal.returns-then-has
returns-then-has c =
    let h : HasKey c.args.line.now c.take_field.result.now c.take_field.new.self c.in-Some.key = record { fields_are = sym c.new-values.ensures.value ∙ c.take_field.ensures; key_is = sym c.in-Some.ensures } in
    repeated (λ k. has k c.args.before.now) c.args.line.now c.take_field.result.now c.take_field.new.self c.in-Some.key h (sym c.has.ensures ∙ c.if-has.true)

pub returns : goal.returns
returns c =
    let h : HasKey c.args.line.now c.take_field.result.now c.take_field.new.self c.in-Some.key = record { fields_are = sym c.new-values.ensures.value ∙ c.take_field.ensures; key_is = sym c.in-Some.ensures } in
    line_by_values (λ k. has k c.args.before.now) c.args.line.now c.take_field.result.now c.rest.result.now c.take_field.new.self c.in-Some.key c.entry_by.result h (sym c.has.ensures ∙ c.if-has.false) c.rest.ensures c.entry_by.ensures
