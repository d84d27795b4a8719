use Rattle.std.proofs.Common.{sym, ◌∙◌, arith}
use Rattle.std.proofs.lemmas.Result.{err_from_is_err_and}
use Rattle.lc_scan.specs.Fields.{fields}
use Rattle.lc_light.proofs.SourceLemmas.{HasKeyword, HasValues, no_keyword, wrong_count, wrong_value, no_room, no_fault, source_is}
use Rattle.lc_light.proofs.LineRanges.{fine}
use Rattle.lc_light.proofs.line.source_in.Goals as goal

pub returns-in_default-clause-value : goal.returns-in_default-clause-value
returns-in_default-clause-value c =
    no_keyword c.args.so_far (fields c.args.line.now) c.take_field.new.self c.take_field.result.now (sym c.new-values.ensures.value ∙ c.take_field.ensures) (sym c.in_default.ensures)

pub returns-then-count-value_count-clause-value : goal.returns-then-count-value_count-clause-value
returns-then-count-value_count-clause-value c =
    let h : HasKeyword (fields c.args.line.now) c.take_field.new.self c.take_field.result.now c.in-Some.keyword = record { fields = sym c.new-values.ensures.value ∙ c.take_field.ensures; keyword = sym c.in-Some.ensures } in
    wrong_count c.args.so_far (fields c.args.line.now) c.take_field.new.self c.take_field.result.now c.in-Some.keyword h (λ same. c.if-count-value_count.true (omega (arith, same, c.count.ensures, c.value_count.ensures)))

pub returns-in_err-source-clause-value : goal.returns-in_err-source-clause-value
returns-in_err-source-clause-value c =
    let p = err_from_is_err_and c.from_residual.result c.from_residual.ensures.1 in
    let h : HasKeyword (fields c.args.line.now) c.take_field.new.self c.take_field.result.now c.in-Some.keyword = record { fields = sym c.new-values.ensures.value ∙ c.take_field.ensures; keyword = sym c.in-Some.ensures } in
    let v : HasValues (fields c.args.line.now) c.take_field.new.self c.take_field.result.now c.in-Some.keyword = record { keyword = h; count = omega (arith, c.count.ensures, c.value_count.ensures) } in
    rw (p.1, p.2) (wrong_value c.args.so_far (fields c.args.line.now) c.take_field.new.self c.take_field.result.now c.in-Some.keyword _ v c.in_err-source.ensures)

pub returns-then-count-so_far-clause-value : goal.returns-then-count-so_far-clause-value
returns-then-count-so_far-clause-value c =
    let h : HasKeyword (fields c.args.line.now) c.take_field.new.self c.take_field.result.now c.in-Some.keyword = record { fields = sym c.new-values.ensures.value ∙ c.take_field.ensures; keyword = sym c.in-Some.ensures } in
    let v : HasValues (fields c.args.line.now) c.take_field.new.self c.take_field.result.now c.in-Some.keyword = record { keyword = h; count = omega (arith, c.count.ensures, c.value_count.ensures) } in
    no_room c.args.so_far (fields c.args.line.now) c.take_field.new.self c.take_field.result.now c.in-Some.keyword c.in_ok-source.source v c.in_ok-source.ensures.0 c.in_ok-source.ensures.1 (omega (arith, c.count-2.ensures))

pub returns-clause-value : goal.returns-clause-value
returns-clause-value c =
    let h : HasKeyword (fields c.args.line.now) c.take_field.new.self c.take_field.result.now c.in-Some.keyword = record { fields = sym c.new-values.ensures.value ∙ c.take_field.ensures; keyword = sym c.in-Some.ensures } in
    let v : HasValues (fields c.args.line.now) c.take_field.new.self c.take_field.result.now c.in-Some.keyword = record { keyword = h; count = omega (arith, c.count.ensures, c.value_count.ensures) } in (
      no_fault c.args.so_far (fields c.args.line.now) c.take_field.new.self c.take_field.result.now c.in-Some.keyword c.in_ok-source.source v c.in_ok-source.ensures.0 c.in_ok-source.ensures.1 (omega (arith, c.count-2.ensures)),
      source_is (fields c.args.line.now) c.take_field.new.self c.take_field.result.now c.in-Some.keyword c.in_ok-source.source h c.in_ok-source.ensures.1,
    )

pub returns-clause-range : goal.returns-clause-range
returns-clause-range c =
    let both = returns-clause-value c in
    (fine c.args.so_far (fields c.args.line.now) c.in_ok-source.source both.0 both.1).range
