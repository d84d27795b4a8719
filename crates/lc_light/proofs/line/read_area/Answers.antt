use Rattle.std.proofs.lemmas.Result.{err_from_is_err_and}
use Rattle.lc_scan.proofs.LineTestLemmas.{cons_found, cons_passed}
use Rattle.lc_light.specs.declared.area.Area.{Area}
use Rattle.lc_light.proofs.SourceLemmas.{HasSides, HasPower, AreValues, area_corner, area_along, area_across, area_power, area_count, area_is}
use Rattle.std.proofs.Common.{[], ◌∙◌}
use Rattle.lc_light.proofs.line.read_area.Goals as goal

pub returns-in_err-corner-clause-value : goal.returns-in_err-corner-clause-value
returns-in_err-corner-clause-value c =
    let p = err_from_is_err_and c.from_residual.result c.from_residual.ensures.1 in
    rw (p.1, p.2) (area_corner c.args.values.now _ c.in_err-corner.ensures.value)

pub returns-in_err-along-clause-value : goal.returns-in_err-along-clause-value
returns-in_err-along-clause-value c =
    let p = err_from_is_err_and c.from_residual-in_err-along.result c.from_residual-in_err-along.ensures.1 in
    rw (p.1, p.2) (area_along c.args.values.now c.vector.new.values _ c.in_ok-corner.ensures.value.0 c.in_ok-corner.ensures.rest c.in_err-along.ensures.value)

pub returns-in_err-across-clause-value : goal.returns-in_err-across-clause-value
returns-in_err-across-clause-value c =
    let p = err_from_is_err_and c.from_residual-in_err-across.result c.from_residual-in_err-across.ensures.1 in
    rw (p.1, p.2)
    (area_across c.args.values.now c.vector.new.values c.side.new.values _ c.in_ok-corner.ensures.value.0 c.in_ok-corner.ensures.rest c.in_ok-along.ensures.value.0 c.in_ok-along.ensures.rest c.in_err-across.ensures.value)

pub returns-in_err-power-clause-value : goal.returns-in_err-power-clause-value
returns-in_err-power-clause-value c =
    let p = err_from_is_err_and c.from_residual-in_err-power.result c.from_residual-in_err-power.ensures.1 in
    let sides : HasSides c.args.values.now c.vector.new.values c.side.new.values c.side-2.new.values = record {
      corner = c.in_ok-corner.ensures.value.0;
      along = c.in_ok-along.ensures.value.0;
      across = c.in_ok-across.ensures.value.0;
      first_is = c.in_ok-corner.ensures.rest;
      second_is = c.in_ok-along.ensures.rest;
      rest_is = c.in_ok-across.ensures.rest;
    } in
    rw (p.1, p.2) (area_power c.args.values.now c.vector.new.values c.side.new.values c.side-2.new.values _ sides c.in_err-power.ensures.value)

pub returns-in_err-count-clause-value : goal.returns-in_err-count-clause-value
returns-in_err-count-clause-value c =
    let p = err_from_is_err_and c.from_residual-in_err-count.result c.from_residual-in_err-count.ensures.1 in
    let sides : HasSides c.args.values.now c.vector.new.values c.side.new.values c.side-2.new.values = record {
      corner = c.in_ok-corner.ensures.value.0;
      along = c.in_ok-along.ensures.value.0;
      across = c.in_ok-across.ensures.value.0;
      first_is = c.in_ok-corner.ensures.rest;
      second_is = c.in_ok-along.ensures.rest;
      rest_is = c.in_ok-across.ensures.rest;
    } in
    let h : HasPower c.args.values.now c.vector.new.values c.side.new.values c.side-2.new.values c.power.new.values = record { sides = sides; power = c.in_ok-power.ensures.value.0; rest_is = c.in_ok-power.ensures.rest } in
    rw (p.1, p.2) (area_count c.args.values.now c.vector.new.values c.side.new.values c.side-2.new.values c.power.new.values h ∙ cons_found _ [] _ c.in_err-count.ensures.value)

pub returns-clause-value : goal.returns-clause-value
returns-clause-value c =
    let sides : HasSides c.args.values.now c.vector.new.values c.side.new.values c.side-2.new.values = record {
      corner = c.in_ok-corner.ensures.value.0;
      along = c.in_ok-along.ensures.value.0;
      across = c.in_ok-across.ensures.value.0;
      first_is = c.in_ok-corner.ensures.rest;
      second_is = c.in_ok-along.ensures.rest;
      rest_is = c.in_ok-across.ensures.rest;
    } in
    let h : HasPower c.args.values.now c.vector.new.values c.side.new.values c.side-2.new.values c.power.new.values = record { sides = sides; power = c.in_ok-power.ensures.value.0; rest_is = c.in_ok-power.ensures.rest } in
    let made : Area = record { corner = c.in_ok-corner.corner; along = c.in_ok-along.along; across = c.in_ok-across.across; power = c.in_ok-power.power; count = c.in_ok-count.count } in
    let v : AreValues c.args.values.now c.vector.new.values c.side.new.values c.side-2.new.values c.power.new.values made = record {
      corner = c.in_ok-corner.ensures.value.1;
      along = c.in_ok-along.ensures.value.1;
      across = c.in_ok-across.ensures.value.1;
      power = c.in_ok-power.ensures.value.1;
      count = c.in_ok-count.ensures.value.1;
    } in (
      area_count c.args.values.now c.vector.new.values c.side.new.values c.side-2.new.values c.power.new.values h ∙ cons_passed _ [] c.in_ok-count.ensures.value.0,
      area_is c.args.values.now c.vector.new.values c.side.new.values c.side-2.new.values c.power.new.values made h v,
    )
