use Rattle.lc_record.proofs.Told.{fault_read, fault_told, text_read, text_told}
use Rattle.lc_record.proofs.laws.readings.Goals as goal

pub returns : goal.returns
returns c = record {
  text_told = text_told;
  fault_told = fault_told;
  text_read = text_read;
  fault_read = fault_read;
}
