use Rattle.std.proofs.Common.{arith}
use Rattle.lc_hier.proofs.ReciprocalLaws.{low_rounded, low_exact, high_rounded, low_short, high_short, step_small, steps_small}
use Rattle.lc_hier.proofs.slab.Reciprocals.of.Goals as goal
use Rattle.lc_hier.proofs.slab.Reciprocals.of.Goals.{then-shift-eq0, else-shift-eq0}

pub returns-then-steps-eq0-clause-low : goal.returns-then-steps-eq0-clause-low
returns-then-steps-eq0-clause-low c = low_short c.args.length c.args.shift c.if-steps-eq0.true

pub returns-then-steps-eq0-clause-high : goal.returns-then-steps-eq0-clause-high
returns-then-steps-eq0-clause-high c = high_short c.args.length c.args.shift c.requires

pub returns-then-steps-eq0-clause-slack_small : goal.returns-then-steps-eq0-clause-slack_small
returns-then-steps-eq0-clause-slack_small c = step_small c.args.shift c.requires

pub overflow_add-low : goal.overflow_add-low
overflow_add-low c = record { fits = steps_small c.args.length c.args.shift c.ranges.length.fits (omega arith) }

pub returns-clause-low : goal.returns-clause-low
returns-clause-low c =
    elim c.if-shift-eq0.branch [ then-shift-eq0 w ↦ rw w.low-is (low_exact c.args.length c.args.shift w.if-shift-eq0.true) | else-shift-eq0 w ↦ rw w.low-is (low_rounded c.args.length c.args.shift) ]

pub returns-clause-high : goal.returns-clause-high
returns-clause-high c = omega (arith, high_rounded c.args.length c.args.shift (omega arith))
