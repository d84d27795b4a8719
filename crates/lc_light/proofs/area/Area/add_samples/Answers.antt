use Rattle.std.proofs.Common.{[], refl, ◌∙◌, ap}
use Rattle.lc_words.specs.Words.{word_of}
use Rattle.lc_words.proofs.WordLaws.{word_at, later}
use Rattle.lc_light.specs.Areas.{place_by}
use Rattle.lc_light.specs.declared.lights.Oriented.{Oriented}
use Rattle.lc_light.proofs.SampleLemmas.{Made, no_samples, grows}
use Rattle.lc_light.proofs.area.Area.add_samples.Goals as goal

pub loop-number-init : goal.loop-number-init
loop-number-init c = record { lights = no_samples (word_of c.args.words.now) c.args.oriented.now [] refl; words = refl }

pub loop-number-preserved : goal.loop-number-preserved
loop-number-preserved c =
    let area = c.args.self.now in
    let n = c.loop-number.number in
    let word = word_at c.args.words.now c.loop-number.words n c.next_word.result c.loop-number.invariant.words c.next_word.ensures.word in
    let light : Oriented = record { place = c.place_by-place.result; normal = c.normal-normal.result; power = c.power_share-power.result } in
    let made : Made (word_of c.args.words.now) area n light = record {
      place = c.place_by-place.ensures ∙ ap (λ w. place_by w area) word;
      normal_is = c.normal-normal.ensures;
      power = c.power_share-power.ensures;
    } in record {
      lights = grows (word_of c.args.words.now) area n light c.args.oriented.now c.loop-number.oriented c.push.new.self made c.loop-number.invariant.lights c.in_ok-push.ensures.ok;
      words = later c.args.words.now c.loop-number.words c.next_word.new.self n 1 _ c.loop-number.invariant.words c.next_word.ensures.after refl;
    }
