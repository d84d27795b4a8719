use Rattle.std.proofs.Common.{sym, ◌∙◌}
use Rattle.std.proofs.lemmas.Result.{on_ok_weaker, IfErr-weaker}
use Rattle.lc_obj.proofs.LineLemmas.{key_is, values_are, kind_is, takes_line, same_stop}
use Rattle.lc_obj.proofs.reading.Reading.take.Goals as goal

pub returns-clause-ok : goal.returns-clause-ok
returns-clause-ok c =
    let line = c.args.line.now in
    let e = sym c.new-values.ensures.value ∙ c.take_field.ensures in
    let k = key_is line c.take_field.result.now c.take_field.new.self c.of-key.result e c.of-key.ensures in
    let v = values_are line c.take_field.result.now c.take_field.new.self e in
    on_ok_weaker c.take_values.result (takes_line c.args.self.now.tables c.args.self.now.triangles line c.take_field.new.self c.of-key.result c.args.self.now c.take_values.new.self k v) c.take_values.ensures.ok

pub returns-clause-fault : goal.returns-clause-fault
returns-clause-fault c =
    let line = c.args.line.now in
    let e = sym c.new-values.ensures.value ∙ c.take_field.ensures in
    let k = key_is line c.take_field.result.now c.take_field.new.self c.of-key.result e c.of-key.ensures in
    let v = values_are line c.take_field.result.now c.take_field.new.self e in
    IfErr-weaker c.take_values.result _ _ (λ s h. same_stop s _ _ (kind_is c.args.self.now.tables c.args.self.now.triangles line c.take_field.new.self c.of-key.result k v) h) c.take_values.ensures.fault
