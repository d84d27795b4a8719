use Rattle.std.proofs.Common.{◌≡◌, sum_by, take}
use Rattle.lc_rated.specs.declared.answer.Answer.{Answer}
use Rattle.lc_map.proofs.pixel.size_byte.Given as goal

abbrev pub invariant-loop-sample : goal.invariant-loop-sample
invariant-loop-sample l = l.sum ≡ sum_by (λ (a : Answer). a.size) (take l.sample-index l.samples)
