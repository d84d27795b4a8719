use Rattle.std.proofs.Common.{ap}
use Rattle.std.proofs.lemmas.Result.{on_ok_weaker, IfOk-equal}
use Rattle.lc_words.specs.Words.{after, word_of}
use Rattle.lc_light.specs.Sources.{samples}
use Rattle.lc_light.proofs.SampleLemmas.{no_samples, count_of_samples}
use Rattle.lc_light.proofs.reader.add.Goals as goal

pub returns-in-Point-clause-oriented : goal.returns-in-Point-clause-oriented
returns-in-Point-clause-oriented c =
    on_ok_weaker c.push.result (λ _. no_samples (word_of c.args.words.now) c.args.lights.now.oriented (samples c.args.source) (ap samples c.in-Point.is)) c.push.ensures.ok

pub returns-in-Sun-clause-oriented : goal.returns-in-Sun-clause-oriented
returns-in-Sun-clause-oriented c =
    on_ok_weaker c.push-in-Sun.result (λ _. no_samples (word_of c.args.words.now) c.args.lights.now.oriented (samples c.args.source) (ap samples c.in-Sun.is)) c.push-in-Sun.ensures.ok

pub returns-in-Area-clause-words : goal.returns-in-Area-clause-words
returns-in-Area-clause-words c =
    IfOk-equal c.add_samples.result _ _ _ c.add_samples.ensures.words (ap (after c.args.words.now) (count_of_samples c.in-Area.area c.args.source c.in-Area.is))
