use Rattle.lc_record.proofs.OneReading.{exact, only}
use Rattle.lc_record.proofs.Told.{refusal_told, value_told}
use Rattle.lc_record.proofs.reader.read_record.Goals as goal

pub returns-clause-only : goal.returns-clause-only
returns-clause-only c = only c.read.result c.args.bytes.now c.read.ensures.ok c.read.ensures.fault

pub returns-clause-exact : goal.returns-clause-exact
returns-clause-exact c = exact c.read.result c.args.bytes.now c.read.ensures.ok c.read.ensures.fault

pub returns-clause-value : goal.returns-clause-value
returns-clause-value c = value_told c.read.result c.args.bytes.now c.read.ensures.ok

pub returns-clause-refused : goal.returns-clause-refused
returns-clause-refused c = refusal_told c.read.result c.args.bytes.now c.read.ensures.fault
