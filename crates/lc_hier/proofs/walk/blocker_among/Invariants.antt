use Rattle.std.proofs.Common.{ℕ, ◌+◌, ◌≤◌}
use Rattle.lc_num.specs.declared.vectors.Vec3.{Vec3}
use Rattle.std.proofs.Common.{List}
use Rattle.lc_hier.specs.declared.node.Row.{Row}
use Rattle.lc_hier.specs.Seen.{AreClear, others}
use Rattle.lc_hier.proofs.walk.blocker_among.Given as goal

pub record SoFar (p q : Vec3) (rows : List Row) (known first place before tests : ℕ) : Type 0 where
  pub clear : AreClear p q rows known place
  pub more : before ≤ tests
  pub below : tests + first ≤ before + place
  pub counted : tests + others known first ≤ before + others known place

abbrev pub invariant-loop-place : goal.invariant-loop-place
invariant-loop-place l = SoFar l.p l.q l.rows l.known l.fn.places.0 l.place l.initial.tests l.tests
