use Rattle.std.proofs.Common.{ap, ◌∙◌}
use Rattle.lc_num.specs.Vectors.{greater, lesser}
use Rattle.lc_hier.proofs.BoundsLaws.{held}
use Rattle.lc_hier.proofs.bounds.Bounds.of.Goals as goal

pub at-requires : goal.at-requires
at-requires c = c.lesser-2.ensures.within 50_000_000 (c.lesser.ensures.within 50_000_000 c.requires.a c.requires.b) c.requires.c

pub at-requires-2 : goal.at-requires-2
at-requires-2 c = c.greater-2.ensures.within 50_000_000 (c.greater.ensures.within 50_000_000 c.requires.a c.requires.b) c.requires.c

pub returns-clause-low : goal.returns-clause-low
returns-clause-low c = c.at.ensures ∙ c.lesser-2.ensures.value ∙ ap (λ v. lesser v c.args.t.now.c) c.lesser.ensures.value

pub returns-clause-high : goal.returns-clause-high
returns-clause-high c = c.at-2.ensures ∙ c.greater-2.ensures.value ∙ ap (λ v. greater v c.args.t.now.c) c.greater.ensures.value

pub returns-clause-holds : goal.returns-clause-holds
returns-clause-holds c = held c.args.t.now (record { low = c.at.result; high = c.at-2.result }) (returns-clause-low c) (returns-clause-high c)
