use Rattle.lc_frame.proofs.WrittenLemmas.{calls_on, note_left, picture_left, picture_part, record_left, record_part, report_left}
use Rattle.lc_frame.proofs.laws.written_files.Goals as goal

pub returns : goal.returns
returns c = record {
  picture = picture_left;
  bounds = record_left;
  report = report_left;
  note = note_left;
  slots = calls_on;
  picture_part = λ why job rows before now broke. picture_part job rows why before now broke;
  bounds_part = λ why job rows before now broke. record_part job rows why before now broke;
}
