use Rattle.std.proofs.Common.{arith}
use Rattle.lc_hier.specs.declared.item.Item.{Item}
use Rattle.lc_hier.proofs.Making.{held_more, numbers_more}
use Rattle.lc_hier.proofs.item.items_of.Goals as goal

pub loop-number-preserved : goal.loop-number-preserved
loop-number-preserved c =
    let item : Item = record { bounds = c.of.result; number = c.loop-number.number } in
    record {
      numbers = numbers_more c.loop-number.items.items c.push.new.self.items item c.in_ok-push.ensures.items c.loop-number.invariant.numbers;
      held = held_more c.args.list.now c.loop-number.items.items c.push.new.self.items item _ c.in_ok-push.ensures.items (omega (arith, c.loop-number-test.true)) c.of.ensures.holds c.loop-number.invariant.held;
    }
