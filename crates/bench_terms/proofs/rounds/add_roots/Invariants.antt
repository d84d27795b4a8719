use Rattle.std.proofs.Common.{◌≡◌, ◌+◌, ◌%◌, ◌^◌, sum_by, take}
use Rattle.lc_num.specs.Roots.{isqrt}
use Rattle.bench_terms.proofs.rounds.add_roots.Given as goal

abbrev pub invariant-loop-word : goal.invariant-loop-word
invariant-loop-word l = l.total ≡ (l.sum + sum_by isqrt (take l.word-index l.words)) % 2 ^ 64
