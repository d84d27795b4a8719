use Rattle.std.proofs.Common.{◌∙◌, arith, to_z}
use Rattle.std.specs.Int.{w32}
use Rattle.std.specs.Prelude.{if◌then◌else◌}
use Rattle.std.proofs.lemmas.Int.{to_z-of_z}
use Rattle.lc_hier.proofs.SlabCode.{end_small, product_fits, product_is}
use Rattle.lc_hier.proofs.slab.Slab.exit.Goals as goal
use Rattle.lc_hier.proofs.slab.Slab.exit.Goals.{then-self, else-self}

pub overflow_mul-result : goal.overflow_mul-result
overflow_mul-result c =
    product_fits (to_z w32 c.if-self.far-bits) (if c.args.self.now.backward then c.args.low else c.args.high) c.args.self.now.wide c.args.self.now.high
    (elim c.if-self.branch [ then-self w ↦ rw w.if-self.true (w.far-is ∙ to_z-of_z w32 c.args.low c.ranges.low) | else-self w ↦ rw w.if-self.false (w.far-is ∙ to_z-of_z w32 c.args.high c.ranges.high) ])
    (end_small c.args.self.now.backward c.args.low c.args.high c.ranges.low c.ranges.high) (omega (arith, c.args.self.now.wide_small)) (omega (arith, c.args.self.now.high_small))

pub returns : goal.returns
returns c =
    product_is (to_z w32 c.if-self.far-bits) (if c.args.self.now.backward then c.args.low else c.args.high) c.args.self.now.wide c.args.self.now.high
    (elim c.if-self.branch [ then-self w ↦ rw w.if-self.true (w.far-is ∙ to_z-of_z w32 c.args.low c.ranges.low) | else-self w ↦ rw w.if-self.false (w.far-is ∙ to_z-of_z w32 c.args.high c.ranges.high) ])
    (end_small c.args.self.now.backward c.args.low c.args.high c.ranges.low c.ranges.high) (omega (arith, c.args.self.now.wide_small)) (omega (arith, c.args.self.now.high_small))
