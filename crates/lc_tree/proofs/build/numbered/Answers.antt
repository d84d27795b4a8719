use Rattle.std.proofs.Common.{◌<◌, arith, ◌∙◌, length, rules}
use Rattle.std.proofs.lemmas.List.{take_all}
use Rattle.lc_tree.specs.Build.{numbered}
use Rattle.lc_tree.proofs.Numbering.{numbered_next, length_numbered}
use Rattle.lc_tree.proofs.build.numbered.Goals as goal

pub loop-number-preserved : goal.loop-number-preserved
loop-number-preserved g c =
    record {
      order = c.in_ok-push.ensures.items ∙ numbered_next g.K.Kind.meaning c.args.lights.now c.loop-number.order.items c.loop-number.number c.index-lights-number.result c.place.result (let below : c.loop-number.number < length c.args.lights.now = search rules in below) c.index-lights-number.is c.place.ensures c.loop-number.invariant.order;
      len = search rules;
    }

pub returns : goal.returns
returns g c =
    c.loop-number.invariant.order ∙ take_all c.loop-number.number (numbered g.K.Kind.meaning c.args.lights.now) (omega (arith, length_numbered g.K.Kind.meaning c.args.lights.now, c.loop-number-test.false))
