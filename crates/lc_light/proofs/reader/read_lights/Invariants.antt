use Rattle.std.proofs.Common.{length}
use Rattle.lc_light.proofs.ReadLemmas.{Progress}
use Rattle.lc_light.proofs.reader.read_lights.Given as goal

abbrev pub invariant-loop-number : goal.invariant-loop-number
invariant-loop-number l = Progress l.bytes l.seed l.lines l.lights l.words l.so_far

abbrev pub decreases-loop-number : goal.decreases-loop-number
decreases-loop-number l = length l.lines
