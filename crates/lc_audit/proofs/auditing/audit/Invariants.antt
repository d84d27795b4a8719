use Rattle.std.proofs.Common.{◌≡◌, None, take}
use Rattle.lc_audit.specs.Verdicts.{looked_at}
use Rattle.lc_audit.proofs.Promises.{first}
use Rattle.lc_audit.proofs.auditing.audit.Given as goal

abbrev pub invariant-loop-turn : goal.invariant-loop-turn
invariant-loop-turn l = first l.job (take l.turn (looked_at l.scene l.job l.kept.lines l.step)) ≡ None
