use Rattle.std.proofs.Common.{◌≡◌}
use Rattle.lc_desk.specs.declared.desk.Slot.TheVariants.{Picture, Bounds, Report, Note}
use Rattle.lc_frame.proofs.PlainFileLemmas.{calls_on, other_left, picture_left, picture_part}
use Rattle.lc_frame.proofs.laws.written_picture.Goals as goal

pub returns : goal.returns
returns c = record {
  picture = picture_left;
  bounds = other_left Bounds (λ (e : Picture ≡ Bounds). cc);
  report = other_left Report (λ (e : Picture ≡ Report). cc);
  note = other_left Note (λ (e : Picture ≡ Note). cc);
  slots = calls_on;
  picture_part = λ why job rows before now broke. picture_part job rows why before now broke;
}
