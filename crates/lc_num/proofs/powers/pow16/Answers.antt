use Rattle.std.proofs.Common.{suc, ◌≡◌, ◌-◌, arith, sym, ◌∙◌}
use Rattle.lc_num.proofs.PowerLemmas.{pow16-none, pow16-first, pow16-next, pow16-whole}
use Rattle.lc_num.proofs.powers.pow16.Goals as goal

pub returns-then-e-eq0-clause-value : goal.returns-then-e-eq0-clause-value
returns-then-e-eq0-clause-value c = rw c.if-e-eq0.true (sym (pow16-none c.args.c))

pub loop-place-init : goal.loop-place-init
loop-place-init c = record {
  place = c.ilog2-place.ensures.bound;
  most = c.requires.cosine;
  value = sym (pow16-first c.args.c c.args.e c.ilog2-place.result c.ilog2-place.ensures.power_le c.ilog2-place.ensures.next_power_gt);
}

pub overflow_shr-e : goal.overflow_shr-e
overflow_shr-e c = omega (arith, c.loop-place.invariant.place)

pub with_digit-power-requires-clause-power : goal.with_digit-power-requires-clause-power
with_digit-power-requires-clause-power c = c.loop-place.invariant.most

pub loop-place-preserved : goal.loop-place-preserved
loop-place-preserved c =
    let next : suc (c.loop-place.place - 1) ≡ c.loop-place.place = omega (arith, c.loop-place-test.true) in
    let value = rw (← next) at c.loop-place.invariant.value in
    record {
      place = omega (arith, c.loop-place.invariant.place);
      most = c.with_digit-power.ensures.most;
      value = c.with_digit-power.ensures.value ∙ rw value (pow16-next c.args.c c.args.e (c.loop-place.place - 1));
    }

pub overflow_cast-result : goal.overflow_cast-result
overflow_cast-result c = record { fits = omega (arith, c.loop-place.invariant.most) }

pub returns-clause-value : goal.returns-clause-value
returns-clause-value c = pow16-whole c.args.c c.args.e c.loop-place.place c.loop-place.power c.loop-place-test.false c.loop-place.invariant.value

pub returns-clause-most : goal.returns-clause-most
returns-clause-most c = c.loop-place.invariant.most
