use Rattle.std.specs.Prelude.{IsSome}
use Rattle.lc_hier.specs.Seen.{IsFirstAmong}
use Rattle.lc_hier.proofs.walk.nearest_among.Given as goal

abbrev pub invariant-loop-place : goal.invariant-loop-place
invariant-loop-place l = IsFirstAmong l.e l.d l.rows l.place l.best × (IsSome l.initial.best → IsSome l.best)
