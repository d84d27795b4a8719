use Rattle.std.proofs.Common.{ℕ, ◌+◌, ◌^◌, length, min, refl, ap, ◌∙◌}
use Rattle.lc_scan.proofs.UnitLemmas.{few_digits}
use Rattle.lc_scan.proofs.DecimalLemmas.{size-shrinks, size-grows}
use Rattle.lc_scan.proofs.decimals.size_up_to_most.Goals as goal

pub nearest_up_to_most-requires-clause-number : goal.nearest_up_to_most-requires-clause-number
nearest_up_to_most-requires-clause-number c =
    few_digits c.digits_value_after-number.result _ c.digits_value_after-number.ensures.small (rw (← c.p.view_is) at c.requires.digits)

pub nearest_up_to_most-requires-else-p-clause-number : goal.nearest_up_to_most-requires-else-p-clause-number
nearest_up_to_most-requires-else-p-clause-number c =
    few_digits c.digits_value_after-number.result _ c.digits_value_after-number.ensures.small (rw (← c.p.view_is) at c.requires.digits)

pub returns-then-p : goal.returns-then-p
returns-then-p c =
    let exponent = rw (← c.p.view_is) at c.requires.exponent in
    rw (← c.p.view_is)
    (c.nearest_up_to_most.ensures
    ∙ ap (λ (n : ℕ). min n (10 ^ 14 + 1))
    (size-shrinks _ c.digits_value_after-front.result c.digits_value_after-number.result (length c.p.inside.after.now) c.args.exponent
    (record { front_is = c.digits_value_after-front.ensures.value; number_is = c.digits_value_after-number.ensures.value; places_is = refl }) c.if-p.true exponent))

pub returns-else-p : goal.returns-else-p
returns-else-p c =
    let exponent = rw (← c.p.view_is) at c.requires.exponent in
    rw (← c.p.view_is)
    (c.nearest_up_to_most-else-p.ensures
    ∙ ap (λ (n : ℕ). min n (10 ^ 14 + 1))
    (size-grows _ c.digits_value_after-front.result c.digits_value_after-number.result (length c.p.inside.after.now) c.args.exponent
    (record { front_is = c.digits_value_after-front.ensures.value; number_is = c.digits_value_after-number.ensures.value; places_is = refl }) c.if-p.false exponent))
