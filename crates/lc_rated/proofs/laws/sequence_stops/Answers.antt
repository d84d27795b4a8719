use Rattle.lc_rated.specs.Cuts.{roots_of}
use Rattle.lc_rated.proofs.CutSequence.{key_positive, length-refined, roots_few, chosen_stops, few_of, going}
use Rattle.lc_rated.proofs.laws.sequence_stops.Goals as goal

pub returns : goal.returns
returns c = record {
  positive = key_positive;
  longer = length-refined;
  few = roots_few;
  stops = λ size permille trees least. chosen_stops size permille (roots_of trees) (few_of size trees least);
  first = λ size permille trees. going size permille (roots_of trees);
}
