use Rattle.std.proofs.Common.{◌≡◌, ◌++◌}
use Rattle.lc_words.specs.Words.{after, word_of}
use Rattle.lc_light.specs.Areas.{samples_from}
use Rattle.lc_light.proofs.SampleLemmas.{first_samples}
use Rattle.lc_light.proofs.area.Area.add_samples.Given as goal

abbrev pub invariant-loop-number : goal.invariant-loop-number
invariant-loop-number l = record {
  lights : l.oriented ≡ l.initial.oriented ++ samples_from (word_of l.initial.words) 0 (first_samples l.self l.number);
  words : l.words ≡ after l.initial.words l.number;
}
