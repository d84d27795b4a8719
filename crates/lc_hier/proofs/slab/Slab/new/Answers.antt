use Rattle.std.proofs.Common.{refl, sym, ◌+◌, ◌^◌}
use Rattle.lc_hier.proofs.SlabLaws.{made_forward, made_backward}
use Rattle.lc_hier.proofs.slab.Slab.new.Goals as goal

pub returns-then-backward : goal.returns-then-backward
returns-then-backward c =
    made_backward (2 ^ (30 + c.args.shift)) c.args.p c.args.q c.unsigned_abs.result c.of-bounds.result.low c.of-bounds.result.high c.of-bounds.result.slack
    c.of-bounds.ensures.low c.of-bounds.ensures.high c.requires.p c.requires.q c.unsigned_abs.ensures.value c.of-bounds.ensures.low_small c.of-bounds.ensures.high_small c.of-bounds.ensures.slack_small
    _ (sym (rw c.if-backward.true at c.requires.backward)) refl refl refl refl refl

pub returns : goal.returns
returns c =
    made_forward (2 ^ (30 + c.args.shift)) c.args.p c.args.q c.unsigned_abs.result c.of-bounds.result.low c.of-bounds.result.high c.of-bounds.result.slack
    c.of-bounds.ensures.low c.of-bounds.ensures.high c.requires.p c.requires.q c.unsigned_abs.ensures.value c.of-bounds.ensures.low_small c.of-bounds.ensures.high_small c.of-bounds.ensures.slack_small
    _ (sym (rw c.if-backward.false at c.requires.backward)) refl refl refl refl refl
