use Rattle.std.proofs.lemmas.Result.{err_from_is_err_and}
use Rattle.lc_light.specs.declared.keyword.Keyword.TheVariants as keyword
use Rattle.lc_light.proofs.SourceLemmas.{HasVector, wrong_vector, point_power, point_passes, point_is}
use Rattle.lc_light.proofs.line.point.Goals as goal

pub returns-in_err-place : goal.returns-in_err-place
returns-in_err-place c =
    let p = err_from_is_err_and c.from_residual.result c.from_residual.ensures.1 in
    rw (p.1, p.2) (wrong_vector keyword.Point c.args.values.now _ c.in_err-place.ensures.value)

pub returns-in_err-power : goal.returns-in_err-power
returns-in_err-power c =
    let p = err_from_is_err_and c.from_residual-in_err-power.result c.from_residual-in_err-power.ensures.1 in
    let h : HasVector c.args.values.now c.vector.new.values = record { vector = c.in_ok-place.ensures.value.0; rest_is = c.in_ok-place.ensures.rest } in
    rw (p.1, p.2) (point_power c.args.values.now c.vector.new.values _ h c.in_err-power.ensures.value)

pub returns : goal.returns
returns c =
    let values = c.args.values.now in
    let rest = c.vector.new.values in
    let h : HasVector values rest = record { vector = c.in_ok-place.ensures.value.0; rest_is = c.in_ok-place.ensures.rest } in (
      point_passes values rest h c.in_ok-power.ensures.value.0,
      point_is values rest c.in_ok-place.place c.in_ok-power.power c.in_ok-place.ensures.rest c.in_ok-place.ensures.value.1 c.in_ok-power.ensures.value.1,
    )
