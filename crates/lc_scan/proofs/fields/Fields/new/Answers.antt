use Rattle.lc_scan.proofs.FieldLemmas.{length-fields-le}
use Rattle.lc_scan.proofs.fields.Fields.new.Goals as goal

pub returns-clause-few : goal.returns-clause-few
returns-clause-few c = length-fields-le c.args.line.now
