use Rattle.std.proofs.Common.{◌-◌, ◌≤◌, arith, inl, inr}
use Rattle.lc_scan.proofs.UnitLemmas.{ten_pos, nearest_up, nearest_down, nothing_left, far_up, no_less, unit_below}
use Rattle.lc_scan.proofs.decimals.nearest_up_to_most.Goals as goal

pub pow-unit-requires : goal.pow-unit-requires
pow-unit-requires c = omega (arith, unit_below (c.args.down - c.args.up) (omega arith))

pub overflow_add-number : goal.overflow_add-number
overflow_add-number c = omega (arith, unit_below (c.args.down - c.args.up) (omega arith))

pub overflow_mul-unit : goal.overflow_mul-unit
overflow_mul-unit c = omega (arith, unit_below (c.args.down - c.args.up) (omega arith))

pub nonzero_div-number : goal.nonzero_div-number
nonzero_div-number c = omega (arith, ten_pos (c.args.down - c.args.up))

pub returns-then-shift-gt30 : goal.returns-then-shift-gt30
returns-then-shift-gt30 c = omega (arith, nearest_down c.args.number c.args.up c.args.down (omega arith), nothing_left c.args.number (c.args.down - c.args.up) c.requires.number (omega arith))

pub returns-else-shift-gt30 : goal.returns-else-shift-gt30
returns-else-shift-gt30 c =
    let le : c.args.up ≤ c.args.down = omega arith in
    cc (nearest_down c.args.number c.args.up c.args.down le)

pub returns-then-number-gt-MOST : goal.returns-then-number-gt-MOST
returns-then-number-gt-MOST c =
    let whole = nearest_up c.args.number c.args.up c.args.down c.if-up-down.true in
    elim c.if-number-gt-MOST.either [
      | inl far ↦ omega (arith, whole, far_up c.args.number (c.args.up - c.args.down) (omega arith) far)
      | inr great ↦ omega (arith, whole, no_less c.args.number (c.args.up - c.args.down), great)
    ]

pub returns-else-number-gt-MOST : goal.returns-else-number-gt-MOST
returns-else-number-gt-MOST c = cc (nearest_up c.args.number c.args.up c.args.down c.if-up-down.true)
