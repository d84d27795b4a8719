use Rattle.std.proofs.Common.{◌≡◌, ◌∙◌, List, ap, arith, length, take, max, rules}
use Rattle.std.specs.List.{list_any}
use Rattle.std.proofs.Math.Seq.{take-length}
use Rattle.lc_algebra.specs.Greatest.{greatest_up_to}
use Rattle.lc_rated.specs.declared.answer.Answer.{Answer}
use Rattle.lc_map.specs.Scale.{sample_reaches}
use Rattle.lc_map.specs.Map.{bound_byte}
use Rattle.lc_map.proofs.Greatest.{bytes-more, bytes-none}
use Rattle.lc_map.proofs.pixel.bound_byte.Goals as goal

pub loop-sample-init : goal.loop-sample-init
loop-sample-init c = bytes-none c.args.samples.now

pub loop-sample-preserved : goal.loop-sample-preserved
loop-sample-preserved c =
    let here = c.loop-sample in
    let step : c.max-greatest.result ≡ max here.greatest c.sample_byte.result = c.max-greatest.ensures ∙ search rules in
    bytes-more c.args.samples.now here.sample-index _ here.greatest c.sample_byte.result c.max-greatest.result (omega arith) here.invariant c.sample_byte.ensures step

pub returns : goal.returns
unfolding bound_byte
returns c =
    let all : c.loop-sample.sample-index ≡ length c.args.samples.now = omega arith in
    c.loop-sample.invariant ∙ ap (λ (s : List Answer). greatest_up_to (λ b. list_any (sample_reaches b) s) 255)
    (ap (λ n. take n c.args.samples.now) all ∙ take-length c.args.samples.now)
