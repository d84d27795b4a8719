use Rattle.std.proofs.Common.{◌∙◌, arith, to_z}
use Rattle.std.specs.Int.{w32}
use Rattle.std.specs.Prelude.{if◌then◌else◌}
use Rattle.std.proofs.lemmas.Int.{to_z-of_z}
use Rattle.lc_hier.proofs.SlabCode.{end_small, product_fits, product_is}
use Rattle.lc_hier.proofs.slab.Slab.entry.Goals as goal
use Rattle.lc_hier.proofs.slab.Slab.entry.Goals.{then-self, else-self}

pub overflow_mul-result : goal.overflow_mul-result
overflow_mul-result c =
    product_fits (to_z w32 c.if-self.near-bits) (if c.args.self.now.backward then c.args.high else c.args.low) c.args.self.now.start c.args.self.now.low
    (elim c.if-self.branch [ then-self w ↦ rw w.if-self.true (w.near-is ∙ to_z-of_z w32 c.args.high c.ranges.high) | else-self w ↦ rw w.if-self.false (w.near-is ∙ to_z-of_z w32 c.args.low c.ranges.low) ])
    (end_small c.args.self.now.backward c.args.high c.args.low c.ranges.high c.ranges.low) (omega (arith, c.args.self.now.start_small)) (omega (arith, c.args.self.now.low_small))

pub returns : goal.returns
returns c =
    product_is (to_z w32 c.if-self.near-bits) (if c.args.self.now.backward then c.args.high else c.args.low) c.args.self.now.start c.args.self.now.low
    (elim c.if-self.branch [ then-self w ↦ rw w.if-self.true (w.near-is ∙ to_z-of_z w32 c.args.high c.ranges.high) | else-self w ↦ rw w.if-self.false (w.near-is ∙ to_z-of_z w32 c.args.low c.ranges.low) ])
    (end_small c.args.self.now.backward c.args.high c.args.low c.ranges.high c.ranges.low) (omega (arith, c.args.self.now.start_small)) (omega (arith, c.args.self.now.low_small))
