use Rattle.lc_map.proofs.Places.{all-parts}
use Rattle.lc_map.proofs.laws.pixels_of_a_record.Goals as goal

pub returns : goal.returns
returns c = λ kept text is. all-parts kept text is
