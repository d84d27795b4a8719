use Rattle.std.proofs.Common.{◌≡◌, length, map}
use Rattle.lc_scan.specs.Keywords.{look_up}
use Rattle.lc_scan.proofs.keywords.look_up.Given as goal

abbrev pub invariant-loop-rest : goal.invariant-loop-rest
invariant-loop-rest g l = look_up (map (λ e. (e.0.now, e.1)) l.rest) l.word ≡ look_up (map (λ e. (e.0.now, e.1)) l.fn.table) l.word

abbrev pub decreases-loop-rest : goal.decreases-loop-rest
decreases-loop-rest g l = length l.rest
